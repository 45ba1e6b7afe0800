-- The writes that are issued, and which one lands last.
pub mod Issued
pub mod Kept
pub mod Landing
pub mod Made
pub mod Values
pub mod Writes
