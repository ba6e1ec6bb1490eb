pub mod Contents
pub mod BigEndian
pub mod Padding
