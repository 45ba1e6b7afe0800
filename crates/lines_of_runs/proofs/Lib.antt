pub mod KernelLines
pub mod Openings
pub mod PlainLines
pub mod Problems
pub mod Shapes
