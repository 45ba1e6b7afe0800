pub mod Among
pub mod Each
pub mod First
pub mod Lines
pub mod Lists
pub mod Names
pub mod Steps
pub mod Told
