mod CoreLemmas
mod Digits
mod MemoryLemmas
mod SessionLemmas
mod Kept
mod Unserved
