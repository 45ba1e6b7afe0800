-- What the clauses of private functions cite.
pub mod Places
pub mod Turns
