-- The text of a kernel.
pub mod Joining
pub mod Rows
