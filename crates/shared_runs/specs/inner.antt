-- What the clauses of private functions cite.
pub mod Lines
pub mod Made
pub mod Pieces
