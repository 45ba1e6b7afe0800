pub mod Slots
pub mod Listed
pub mod Added
pub mod Leading
pub mod Bounds
pub mod Used
