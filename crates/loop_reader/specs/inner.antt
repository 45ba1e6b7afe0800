-- How a text is read: what the clauses of private functions cite.
pub mod Blocks
pub mod Building
pub mod Chains
pub mod Checks
pub mod Found
pub mod Known
pub mod Texts
