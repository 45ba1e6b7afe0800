pub mod Counted
pub mod Documents
