pub mod Survival
pub mod Serving
pub mod Composition
