-- The first fault of a draft, and what a draft without one is.
pub mod Among
pub mod Apart
pub mod Says
pub mod Seen
pub mod Sound
