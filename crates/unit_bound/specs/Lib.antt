pub mod Units
pub mod Uses
