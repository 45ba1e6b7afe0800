pub mod Numbers
pub mod Works
pub mod Zipped
