pub mod Rests
pub mod Commits
pub mod FirstStore
