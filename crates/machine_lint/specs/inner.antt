pub mod Ats
pub mod Marks
pub mod Tables
pub mod Sought
