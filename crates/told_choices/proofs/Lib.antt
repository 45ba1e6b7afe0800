mod Collecting
pub mod Held
pub mod Telling
