-- What the clauses of private functions cite.
pub mod BitTables
pub mod Choices
pub mod Lanes
pub mod Marks
pub mod Masks
pub mod OwnerTables
pub mod Rosters
pub mod Slots
pub mod Times
