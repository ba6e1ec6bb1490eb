pub mod Refusals
pub mod Heads
pub mod Rows
pub mod Checkpoint
pub mod Reading
pub mod ErrorNumber
pub mod Stream
