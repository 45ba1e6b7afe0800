pub mod Drawing
pub mod Edges
