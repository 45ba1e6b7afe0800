pub mod Chosen
pub mod Doublings
pub mod Names
pub mod OfOpcodes
pub mod Shortenings
