pub mod Least
pub mod Runs
pub mod SetLines
