pub mod Fronts
pub mod Moments
pub mod Rights
pub mod Sent
