pub use Rattle.edges.specs.Graphs
pub mod Kept
pub mod Promises
pub mod Rounds
pub mod Walks
pub mod inner
