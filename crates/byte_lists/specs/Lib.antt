pub mod Content
pub mod Numbers
pub mod Sectors
