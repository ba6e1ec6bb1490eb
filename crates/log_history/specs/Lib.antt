pub mod Entries
pub mod Rights
