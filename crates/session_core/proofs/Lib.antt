pub mod FrameLemmas
pub mod Streams
pub mod Faults
pub mod OneDecoding
pub mod SomeDecoding
mod ResponseLengths
mod WriteLemmas
mod AheadLemmas
mod Exchanges
pub mod AtOnce
mod SessionLemmas
pub mod HandedInLemmas
mod InboxLemmas
mod Behind
pub mod FramerLemmas
mod Pieces
mod ToldLemmas
mod ToldFrames
