-- What the clauses of private functions cite.
pub mod Found
pub mod Pieces
pub mod Made
