pub use Rattle.outcome_text.specs.Answers
pub mod Parts
pub mod Operations
pub mod Values
pub mod Solutions
pub mod Failures
pub mod Bounds
pub mod Outcomes
