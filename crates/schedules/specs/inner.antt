-- What the clauses of private functions cite.
pub mod Kinds
pub mod Listed
