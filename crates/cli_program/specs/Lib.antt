pub mod Failures
pub mod Options
pub mod Priorities
pub mod Serving
