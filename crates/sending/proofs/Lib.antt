pub mod Dues
pub mod Turns
pub mod Kept
pub mod Behind
pub mod Histories
pub mod Moments
pub mod Milliseconds
