pub mod Layers
pub mod Sweeps
