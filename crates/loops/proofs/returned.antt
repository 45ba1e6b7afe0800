-- The canonical text gives its loop back.
pub mod InitsBack
pub mod OneBlock
pub mod Returned
pub mod Written
