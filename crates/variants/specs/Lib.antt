pub mod Intervals
pub mod Findings
pub mod Texts
pub mod Documents
pub mod Totals
pub mod inner
