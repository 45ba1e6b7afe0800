pub mod Drawn
pub mod Quotes
