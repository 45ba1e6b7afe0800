pub mod Alternative
pub mod Machines
pub mod Opcodes
pub mod inner
