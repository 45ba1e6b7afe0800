pub mod Drawing
pub mod Trying
