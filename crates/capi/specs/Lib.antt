pub use Rattle.solutions.specs.Solutions
pub mod Given
pub mod Answers
pub mod Calls
pub mod Verdicts
pub mod Checks
pub mod Texts
