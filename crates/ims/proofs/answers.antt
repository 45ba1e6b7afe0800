-- What attempts answer.
pub mod OfLoops
pub mod OneAnswers
pub mod Promised
