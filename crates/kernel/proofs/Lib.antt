pub mod shapes
pub mod cycles
pub mod texts
