pub mod Answered
pub mod Documents
pub mod Explaining
mod Listing
pub mod Scheduling
pub mod Texts
