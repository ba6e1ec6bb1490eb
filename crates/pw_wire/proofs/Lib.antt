pub mod Exports
pub mod Messages
pub mod VarintReading
pub mod Encoding
pub mod Varints
pub mod FieldLemmas
pub mod NextField
