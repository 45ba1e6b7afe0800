-- What cells hold.
pub mod Cells
pub mod LastStores
pub mod Loads
