pub mod Examples
pub mod Sampled
pub mod OnceExamples
