pub mod CircuitTexts
pub mod Explanations
pub mod Reasons
pub mod SetLines
pub mod Shown
pub mod Tries
