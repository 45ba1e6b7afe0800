pub mod Beginnings
mod Pairs
