pub mod allotted
pub mod lives
pub mod Whole
