-- What the clauses of private functions cite.
pub mod Columns
pub mod Told
pub mod Tries
