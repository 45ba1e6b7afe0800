pub mod Runnable
pub mod Told
