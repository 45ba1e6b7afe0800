-- What is kept of operations and their placements.
pub mod Choosing
pub mod Lists
pub mod Residues
pub mod Rostering
