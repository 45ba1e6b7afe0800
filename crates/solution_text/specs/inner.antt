-- What the clauses of private functions cite.
pub mod Carried
pub mod Chains
pub mod Parts
