-- What the clauses of private functions cite.
pub mod Filling
pub mod Judging
pub mod Searching
