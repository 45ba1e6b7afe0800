pub mod Lengths
pub mod TextLemmas
