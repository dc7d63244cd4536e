pub mod Nearest
pub mod Placing
pub mod News
pub mod Receiving
pub mod Lists
pub mod Arrivals
pub mod InForce
