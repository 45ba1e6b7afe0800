pub mod placements
pub mod slots
pub mod searching
