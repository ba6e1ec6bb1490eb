pub mod Ending
pub mod Failures
pub mod Options
pub mod Priorities
