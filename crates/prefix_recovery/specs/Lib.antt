pub mod Survival
pub mod Served
pub mod Steps
pub mod TraceSteps
pub mod Recoverable
pub mod Composition
pub mod servers
