-- Which write lands last, and what runs promise.
pub mod Landings
pub mod Promised
