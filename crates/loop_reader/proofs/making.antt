-- The loop of a block that passed all checks.
pub mod Built
pub mod Few
pub mod Initials
pub mod Inits
pub mod Lawful
pub mod Lines
pub mod Made
pub mod Numbered
pub mod Spelled
