pub mod Adding
pub mod Fronts
pub mod Noting
pub mod PassSteps
pub mod Sent
pub mod Waiting
