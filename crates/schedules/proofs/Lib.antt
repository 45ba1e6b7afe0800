pub mod Edges
pub mod OneProblems
pub mod lawfulness
