pub mod Ending
pub mod Placing
pub mod Texting
