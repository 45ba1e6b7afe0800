pub mod Totals
pub mod Words
pub mod Steps
pub mod Opening
pub mod Drawing
pub mod Closing
pub mod Events
