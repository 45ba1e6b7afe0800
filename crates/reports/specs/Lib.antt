pub mod Entries
pub mod Gathered
