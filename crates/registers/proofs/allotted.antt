-- Numbers that are lawful, values that meet where they are not, and the least numbers.
pub mod Filled
pub mod First
pub mod Fitting
pub mod Freed
pub mod Least
pub mod Meeting
pub mod More
pub mod Placing
pub mod Shared
pub mod Shifts
pub mod Taking
