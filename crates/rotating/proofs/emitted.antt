-- The kernel of a scheduled loop.
pub mod Emitted
pub mod Ranks
pub mod Stated
