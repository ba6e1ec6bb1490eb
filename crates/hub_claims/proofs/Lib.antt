pub mod Committed
pub mod Sent
