pub mod Jobs
pub mod Parts
pub mod inner
