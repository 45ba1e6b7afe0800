pub mod Covering
mod Rowing
