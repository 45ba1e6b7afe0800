pub mod finding
