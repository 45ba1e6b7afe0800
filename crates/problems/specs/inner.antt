-- What the clauses of private functions cite.
pub mod Listed
pub mod Seen
