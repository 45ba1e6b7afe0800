-- What the clauses of private functions cite.
pub mod Halves
pub mod Holding
pub mod Kinds
pub mod Prepared
pub mod Steps
