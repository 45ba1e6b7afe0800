pub mod Worked
pub mod Settled
pub mod inner
