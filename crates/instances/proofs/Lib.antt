pub mod Turned
pub mod Issued
pub mod Lives
pub mod Standing
pub mod Openings
pub mod Sequential
