pub mod Bounds
pub mod Last
pub mod Met
