-- When values live, and how many live at once.
pub mod Ages
pub mod Crowded
pub mod Listed
pub mod Pigeons
pub mod Spans
