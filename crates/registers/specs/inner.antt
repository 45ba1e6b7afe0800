-- What the clauses of private functions cite.
pub mod Forbidding
pub mod Gaps
pub mod Lasts
pub mod Turns
