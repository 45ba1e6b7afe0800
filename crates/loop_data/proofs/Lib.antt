pub mod Initials
pub mod InstanceCells
pub mod Instances
pub mod LastStores
pub mod Openings
pub mod Promised
