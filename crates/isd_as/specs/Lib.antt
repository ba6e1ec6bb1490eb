pub mod IaError
pub mod IsdAs
pub mod Reading
pub mod Text
