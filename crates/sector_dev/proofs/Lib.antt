pub mod Results
pub mod Images
pub mod Parts
pub mod Stretches
mod FileMoments
mod Joined
mod Covered
mod CountedCalls
mod NothingLands
