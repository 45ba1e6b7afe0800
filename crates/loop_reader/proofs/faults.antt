-- The faults of a line, and what a line gives.
pub mod Checking
pub mod Covering
pub mod Giving
pub mod Rows
pub mod Taken
pub mod Turns
