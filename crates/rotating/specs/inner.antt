-- What the clauses of private functions cite.
pub mod Naming
pub mod Uses
