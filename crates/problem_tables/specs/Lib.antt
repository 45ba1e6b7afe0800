pub mod Data
pub mod Faults
pub mod Names
pub mod Seen
pub mod Tables
pub mod inner
