pub use Rattle.machine_data.specs.Alternative
pub use Rattle.machine_data.specs.Machines
pub use Rattle.machine_data.specs.Opcodes
pub use Rattle.machine_data.specs.declared.alternative.Row
pub use Rattle.machine_data.specs.declared.opcode.Opcode
pub mod MachineText
pub mod inner
