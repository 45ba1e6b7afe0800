pub mod Answered
pub mod Answering
pub mod Commas
pub mod Named
pub mod Placed
pub mod Strangers
