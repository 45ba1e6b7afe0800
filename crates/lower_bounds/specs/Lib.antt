pub mod Bounds
pub mod Faults
pub mod Texts
