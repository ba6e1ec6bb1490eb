pub mod Prefix
pub mod Held
pub mod Tickets
pub mod Runs
pub mod MachineSteps
pub mod BooksKept
pub mod Reopened
