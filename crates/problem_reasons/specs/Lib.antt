pub mod Units
pub mod Sets
pub mod CircuitTexts
pub mod Holds
pub mod Tries
pub mod Reasons
