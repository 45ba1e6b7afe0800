pub mod Listed
pub mod OneChoices
pub mod OneOutcomes
pub mod Promised
pub mod Readied
pub mod Rising
