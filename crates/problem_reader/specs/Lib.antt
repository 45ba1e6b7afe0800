pub mod Files
pub mod Meaning
pub mod Sofar
pub mod inner
