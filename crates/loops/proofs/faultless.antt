-- The canonical text has no fault.
pub mod Faultless
pub mod HeadLines
pub mod InitLines
pub mod Insides
pub mod Lookups
pub mod OutLines
pub mod ShortNames
pub mod StatementLines
