pub mod Resting
pub mod Folding
pub mod Committing
pub mod OnceView
pub mod Settling
pub mod Taking
pub mod Starting
