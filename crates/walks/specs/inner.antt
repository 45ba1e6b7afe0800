-- What the clauses of private functions cite.
pub mod Sweeps
pub mod Reaches
