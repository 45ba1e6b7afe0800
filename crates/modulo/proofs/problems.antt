-- The order in which operations are taken, and the alternatives that are sound.
pub mod Apart
pub mod Ranking
pub mod Sorting
