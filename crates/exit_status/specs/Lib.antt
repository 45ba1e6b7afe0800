pub mod Statuses
pub mod Writing
pub mod inner
