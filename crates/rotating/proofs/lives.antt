-- How long the values of a loop live.
pub mod Greatest
pub mod Spans
