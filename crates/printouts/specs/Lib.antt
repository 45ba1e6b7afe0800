pub mod Outcomes
pub mod Schedule
