-- What the clauses of private functions cite.
pub mod Holds
pub mod Numbered
pub mod Spots
