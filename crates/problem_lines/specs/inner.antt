-- What the clauses of private functions cite.
pub mod Cursors
pub mod Pieces
