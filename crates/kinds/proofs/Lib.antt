pub mod Making
pub mod Numbers
