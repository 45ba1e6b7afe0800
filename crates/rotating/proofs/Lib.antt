pub mod lives
pub mod emitted
