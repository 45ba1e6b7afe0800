pub mod Circuits
pub mod Potentials
pub mod Raises
pub mod Recurrences
pub mod Settling
pub mod Sweeps
