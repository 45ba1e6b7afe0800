pub mod CircuitSums
pub mod Drawn
pub mod KindRules
pub mod Parts
