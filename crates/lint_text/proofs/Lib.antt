pub mod Passing
pub mod Whole
pub mod Sound
pub mod Joined
