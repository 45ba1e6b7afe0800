pub use Rattle.loop_reader.specs.Meaning
pub mod Hints
pub mod Lacks
pub mod Lints
pub mod Misfits
pub mod Parts
pub mod Words
pub mod inner
