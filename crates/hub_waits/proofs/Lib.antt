pub mod Counted
pub mod Numbers
