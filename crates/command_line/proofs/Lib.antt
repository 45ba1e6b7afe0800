pub mod Beginnings
pub mod LineLemmas
