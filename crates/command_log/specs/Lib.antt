pub mod Log
pub mod Passes
