pub mod End
pub mod Passes
pub mod Example
pub mod WellFormed
pub mod in_registers
pub mod in_cells
pub mod in_flight
