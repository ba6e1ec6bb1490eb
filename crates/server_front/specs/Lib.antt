pub mod Accepting
pub mod Arriving
pub mod Ending
pub mod Roles
pub mod Seating
