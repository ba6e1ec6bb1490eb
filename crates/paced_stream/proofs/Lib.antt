mod ConnectionLemmas
pub mod FrameLemmas
mod TrackerLemmas
