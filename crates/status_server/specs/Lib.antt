pub mod Answers
pub mod Kinds
pub mod LookupTimes
pub mod Refusals
pub mod Requests
pub mod VisitSteps
pub mod Visits
