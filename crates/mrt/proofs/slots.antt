-- The slots that are held, as owners and as bits.
pub mod Gaps
pub mod Lanes
pub mod Laying
pub mod Marking
pub mod Masking
pub mod Needing
pub mod Owning
pub mod Timing
