-- How the dependences of a loop are found, and what they promise; and what is known of its operations.
pub mod Found
pub mod GraphOf
pub mod Instances
pub mod Latencies
pub mod Operations
pub mod Promised
pub mod SameArrays
