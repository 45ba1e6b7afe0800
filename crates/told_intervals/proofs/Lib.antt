pub mod Evidenced
