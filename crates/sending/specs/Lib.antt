pub mod Sending
pub mod Answered
pub mod Audio
pub mod Runs
