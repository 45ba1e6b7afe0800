-- What the clauses of private functions cite.
pub mod Objects
pub mod Seen
