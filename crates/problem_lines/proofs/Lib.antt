pub mod Cuts
pub mod EightBytes
pub mod Labels
pub mod Places
pub mod Signs
