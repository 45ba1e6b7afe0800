-- Definitions that only this crate's private contracts cite.
pub mod Added
pub mod Rated
