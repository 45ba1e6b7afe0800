pub use Rattle.loop_data.specs.Loops
pub use Rattle.loop_lines.specs.Forms
pub use Rattle.loop_lines.specs.Words
pub use Rattle.machine_data.specs.Opcodes
pub mod Declarations
pub mod Meaning
pub mod inner
