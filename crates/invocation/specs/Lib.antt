pub use Rattle.command_line.specs.Lines
pub mod Endings
pub mod Exits
pub mod Paths
