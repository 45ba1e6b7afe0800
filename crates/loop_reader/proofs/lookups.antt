-- What names stand for.
pub mod Chains
pub mod Declared
pub mod Finding
pub mod Naming
pub mod Once
