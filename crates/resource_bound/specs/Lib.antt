pub mod Choices
pub mod UnitLines
pub mod inner
