pub use Rattle.loop_listings.specs.Listings
pub use Rattle.loop_schedules.specs.Problems
pub use Rattle.overlap.specs.Overlap
pub use Rattle.settings.specs.Settings
pub mod Choices
pub mod Files
pub mod Outcomes
pub mod Promises
