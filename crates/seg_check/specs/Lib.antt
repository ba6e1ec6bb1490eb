pub mod Expiry
pub mod Signatures
pub mod Checking
pub mod Keyed
