pub use Rattle.loop_data.proofs.Openings
pub mod Parts
pub mod ReadBack
pub mod Sizes
pub mod Texts
pub mod faultless
pub mod returned
pub mod spelling
