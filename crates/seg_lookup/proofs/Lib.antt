mod Rosters
mod Sides
mod Shown
mod OneMore
mod Follows
pub mod Exports
