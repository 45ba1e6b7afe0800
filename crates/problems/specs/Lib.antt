pub mod Drafts
pub mod Faults
pub mod Labels
pub mod Problems
pub mod Promises
pub mod Refusals
pub mod inner
