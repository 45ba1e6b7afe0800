pub mod Buckets
pub mod Firsts
pub mod Holding
pub mod Naming
pub mod Taking
