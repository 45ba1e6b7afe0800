pub mod Circuits
pub mod Parts
pub mod Reasoned
pub mod Showing
pub mod Tried
