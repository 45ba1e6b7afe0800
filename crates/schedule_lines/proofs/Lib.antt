pub mod Joined
pub mod Lines
pub mod Lives
pub mod Widths
