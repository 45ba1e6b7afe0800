pub mod Lists
pub mod Timed
pub mod Whole
