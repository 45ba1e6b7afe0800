-- What makes a list of times and alternatives a schedule, and what it breaks first where it is none.
pub mod Breaking
pub mod Checking
pub mod Greatest
pub mod Slots
pub mod Stages
