-- How what a command writes is held.
pub mod Held
