pub mod Completed
pub mod Moments
pub mod Numbers
