pub mod Learnt
pub mod Showcase
pub mod Showing
pub mod Shown
pub mod Sight
