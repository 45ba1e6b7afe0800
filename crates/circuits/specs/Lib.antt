pub mod Circuits
pub mod Promises
pub mod inner
pub use Rattle.walks.specs.Walks
