-- The rules of well-formed kernels.
pub mod Deciding
pub mod FirstRule
pub mod Preloading
