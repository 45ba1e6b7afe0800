pub mod Told
pub mod Holds
pub mod Least
pub mod Whys
pub mod inner
