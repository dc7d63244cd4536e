pub mod Division
pub mod Check
pub mod Changes
pub mod Worked
