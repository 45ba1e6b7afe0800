pub use Rattle.loop_lint.specs.Lints
pub use Rattle.machine_lint.specs.Lints as MachineLints
pub mod Lines
pub mod Machines
pub mod Printout
pub mod Document
pub mod What
pub mod Words
pub mod inner
