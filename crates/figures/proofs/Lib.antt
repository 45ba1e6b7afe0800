pub mod Busy
pub mod Later
pub mod Marks
pub mod OneTaker
