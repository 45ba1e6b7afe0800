-- What registers hold.
pub mod Different
pub mod Lives
pub mod OfSchedule
pub mod OfValues
pub mod Preloaded
pub mod Registers
