pub use Rattle.edges.specs.Graphs
pub use Rattle.mrt.specs.Placements
pub mod Breaches
pub mod Demands
pub mod Problems
pub mod Promises
pub mod Schedules
pub mod inner
