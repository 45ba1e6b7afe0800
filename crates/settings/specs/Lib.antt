pub mod Formats
pub mod Searches
pub mod Settings
