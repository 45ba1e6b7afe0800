-- What the clauses of private functions cite.
pub mod Steps
pub mod Together
