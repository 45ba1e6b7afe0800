pub use Rattle.loop_schedules.specs.Problems
pub mod Causes
pub mod Listings
pub mod Pieces
pub mod Texts
