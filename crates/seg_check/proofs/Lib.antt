pub mod Digests
pub mod Expiries
pub mod Checks
mod ManyChecks
pub mod Exports
