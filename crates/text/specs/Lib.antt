pub mod Hex
pub mod Bits
pub mod Tones
pub mod Loaded
