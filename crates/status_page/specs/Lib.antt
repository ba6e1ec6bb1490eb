pub mod Calls
pub mod Histogram
pub mod Lines
pub mod Page
pub mod Phases
pub mod Request
pub mod Response
pub mod Rows
