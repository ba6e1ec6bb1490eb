pub mod Text
pub mod Json
pub mod Form
pub mod Reading
pub mod Date
