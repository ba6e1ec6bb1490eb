mod Recovered
mod Joined
