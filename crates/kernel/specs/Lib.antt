pub use Rattle.loop_data.specs.Loops
pub use Rattle.machine_data.specs.Machines
pub mod Check
pub mod Kernels
pub mod Overlapped
pub mod Promises
pub mod Rules
pub mod Text
