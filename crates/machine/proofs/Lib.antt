pub mod Laws
pub mod Lengths
pub mod Slots
pub mod Whole
pub mod checks
pub mod texts
