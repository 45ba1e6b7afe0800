-- What the clauses of private functions cite.
pub mod Refusals
pub mod Answers
