-- What the clauses of private functions cite.
pub mod Found
pub mod Numbered
pub mod Reading
pub mod Seen
pub mod Steps
pub mod Taken
