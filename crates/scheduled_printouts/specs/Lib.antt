pub mod Graphs
pub mod inner
