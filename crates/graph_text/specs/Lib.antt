pub mod CircuitLines
pub mod Dot
pub mod Drawings
pub mod Edges
pub mod Kinds
pub mod Names
