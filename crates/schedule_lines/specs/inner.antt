-- What the clauses of private functions cite.
pub mod Labels
pub mod Grids
