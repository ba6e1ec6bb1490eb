mod Claimed
mod HandedIn
mod NoCommands
mod Paces
mod Purged
