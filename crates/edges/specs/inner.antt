-- What the clauses of private functions cite.
pub mod Layout
