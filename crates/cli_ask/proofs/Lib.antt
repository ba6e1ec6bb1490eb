pub mod Talk
pub mod Listings
pub mod Purges
