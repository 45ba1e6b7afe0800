-- How all faults are told: what the clauses of private functions cite.
pub mod Pieces
pub mod Founds
pub mod Lacking
pub mod Names
pub mod Passes
pub mod Tables
