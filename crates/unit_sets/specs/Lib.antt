pub mod Sets
pub mod Fullest
pub mod inner
