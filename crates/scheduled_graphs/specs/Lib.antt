pub mod Arrows
pub mod Drawn
pub mod Graphs
pub mod Heads
pub mod Nodes
