pub mod Attending
pub mod Pacing
pub mod Trusting
pub mod Verifying
