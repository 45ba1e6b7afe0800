pub mod Filtered
pub mod GivenEdges
pub mod Grouping
pub mod Order
pub mod Slices
