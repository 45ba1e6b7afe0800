pub mod Filing
pub mod Filling
pub mod Lives
pub mod Rightness
pub mod Breaking
pub mod OneOutcomes
pub mod Rising
pub mod Judged
pub mod Numbered
pub mod Copying
pub mod Naming
pub mod Unrolling
mod Blamed
pub mod Telling
mod Searching
