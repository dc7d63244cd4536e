pub mod Serving
pub mod Session
