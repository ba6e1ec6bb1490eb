pub mod OwnerSteps
pub mod Sent
