-- The machine, from cycle to cycle and turn to turn.
pub mod Cycles
pub mod Ending
pub mod Filling
pub mod Flat
pub mod Halved
pub mod Held
pub mod Issuing
pub mod Landings
pub mod Launching
pub mod Naming
pub mod Room
pub mod RowWrites
pub mod Turning
pub mod Twofold
