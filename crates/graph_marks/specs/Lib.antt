pub mod Arrows
pub mod Labels
pub mod Nodes
