-- What issue times that keep the edges of a problem keep.
pub mod InTime
pub mod Sizes
