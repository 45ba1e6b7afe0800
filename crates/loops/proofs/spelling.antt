-- The words of the canonical text, and the forms that they are read as.
pub mod Forming
pub mod LoopNames
pub mod Names
pub mod Numerals
pub mod Placing
pub mod PlainWords
pub mod Spelling
pub mod Splitting
pub mod StatementForms
