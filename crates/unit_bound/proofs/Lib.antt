pub mod Best
pub mod Chosen
pub mod Most
pub mod Passes
pub mod Pigeons
pub mod Tally
pub mod UnitBound
