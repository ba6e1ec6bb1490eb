mod Lengths
mod Fronts
mod Stored
mod Streams
