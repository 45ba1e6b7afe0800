pub use Rattle.machine_data.specs.Alternative
pub mod Placements
pub mod Taken
pub mod inner
