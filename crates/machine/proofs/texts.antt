-- Texts in a machine text.
pub mod Texts
pub mod Words
