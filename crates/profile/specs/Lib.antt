pub mod Questions
pub mod Loading
pub mod Labels
pub mod Guarantees
pub mod Examples
