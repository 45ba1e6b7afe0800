pub mod Chosen
pub mod Ending
pub mod Refused
mod Lengths
mod Linting
mod Searched
