pub mod Canonical
pub mod Cuts
pub mod Digits
pub mod Grammar
pub mod SameNumber
