pub mod Dialling
pub mod Network
pub mod Heard
