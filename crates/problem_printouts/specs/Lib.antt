pub mod Problems
pub mod Told
pub mod Solving
pub mod Judging
pub mod Graphing
pub mod Explaining
pub mod Scheduling
pub mod inner
