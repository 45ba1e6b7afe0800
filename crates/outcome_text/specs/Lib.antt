pub use Rattle.solution_text.specs.Outcomes
pub mod Notes
pub mod Answers
pub mod inner
