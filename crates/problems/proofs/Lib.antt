pub mod Labelled
pub mod faults
pub mod keeping
pub mod made
