pub use Rattle.loop_schedules.specs.Schedules
pub use Rattle.overlap.specs.Lifetimes
pub use Rattle.rotating.specs.Needs
pub mod Slacks
pub mod Figures
pub mod Slots
pub mod LiveCounts
pub mod inner
