mod ServingLemmas
pub mod Acknowledging
pub mod Sending
