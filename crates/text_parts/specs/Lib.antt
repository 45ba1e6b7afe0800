pub mod Parted
pub mod Parts
pub mod inner
