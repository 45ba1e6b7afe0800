pub mod Lists
pub mod Whole
