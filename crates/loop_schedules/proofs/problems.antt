-- What is scheduled.
pub mod Kinds
pub mod Offered
pub mod OneProblems
