-- The lines of a block, and where it stops.
pub mod BlockStanding
pub mod Blocking
pub mod Ending
pub mod Memoryless
pub mod OpeningLines
pub mod Reading
