pub mod Groups
pub mod Handing
pub mod Keeping
pub mod Looking
pub mod Sent
mod Passing
