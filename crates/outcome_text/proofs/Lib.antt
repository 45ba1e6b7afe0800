pub mod Circuits
pub mod Uses
