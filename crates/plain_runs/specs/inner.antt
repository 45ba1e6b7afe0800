-- How a run is carried out: what the clauses of private functions cite.
pub mod Blocks
pub mod Orders
pub mod Steps
pub mod Together
pub mod Turns
pub mod TwoIterations
