pub mod Parts
pub mod Edges
pub mod Units
pub mod Tries
pub mod Operations
pub mod Kernels
pub mod Loops
pub mod inner
