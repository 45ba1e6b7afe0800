pub mod Among
pub mod Best
pub mod Chosen
pub mod Fullest
pub mod RowsAt
