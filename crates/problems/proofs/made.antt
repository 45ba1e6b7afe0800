-- What a well-formed draft comes to.
pub mod Edges
pub mod Lists
pub mod Tables
pub mod Whole
