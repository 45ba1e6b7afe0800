pub use Rattle.loop_listings.specs.Listings
pub mod Documents
pub mod Joined
pub mod inner
