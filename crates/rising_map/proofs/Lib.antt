mod Rising
mod Entries
mod Found
mod Holes
mod Places
mod Steps
