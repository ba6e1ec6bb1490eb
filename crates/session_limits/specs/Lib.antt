pub mod Future
pub mod Limits
pub mod Readings
pub mod Sending
