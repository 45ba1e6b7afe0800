pub mod Plain
pub mod Runnable
pub mod Runs
