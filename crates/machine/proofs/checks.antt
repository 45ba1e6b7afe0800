-- The checks of a machine text, and their faults.
pub mod Faults
pub mod Keys
pub mod Parts
pub mod RowFaults
pub mod TreeFaults
pub mod Turns
