pub mod Bare
pub mod Promised
pub mod problems
