-- How failures are collected and an interval is chosen: what the clauses of private functions cite.
pub mod Collected
pub mod Choosing
