-- What the clauses of private functions cite.
pub mod Asked
pub mod Judged
pub mod Known
pub mod Listed
pub mod Pieces
pub mod Sofar
