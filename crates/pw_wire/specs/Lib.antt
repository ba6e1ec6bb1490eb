pub mod Decoding
pub mod Varint
pub mod Field
pub mod Fields
pub mod View
