pub mod Lengths
pub mod blocks
pub mod faults
pub mod lookups
pub mod making
