pub mod Connection
pub mod Grown
pub mod Tracking
