pub mod LoopFaults
pub mod MachineFaults
pub mod inner
