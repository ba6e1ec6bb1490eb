pub mod Handed
pub mod History
pub mod Numbering
pub mod Orders
pub mod Passes
pub mod Refusals
