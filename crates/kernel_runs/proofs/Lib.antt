pub mod cycles
