pub mod Fronts
mod Joined
mod Runs
mod TicketPlaces
mod Extended
pub mod Recovered
mod SoFar
