pub mod Edges
pub mod Graphs
pub mod Schedules
pub mod inner
