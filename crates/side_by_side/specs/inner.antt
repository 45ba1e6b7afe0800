-- What the clauses of private functions cite.
pub mod Explained
pub mod Objects
pub mod Scheduled
pub mod Told
