-- What a table answers.
pub mod Scheduling
pub mod Searching
pub mod Taking
