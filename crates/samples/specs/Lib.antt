pub mod Notation
pub mod Witness
pub mod OnceWitness
pub mod WorkedExamples
pub mod Samples
