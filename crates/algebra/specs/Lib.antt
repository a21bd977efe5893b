pub mod Answers
pub mod Cycles
pub mod Matrices
pub mod Theorems
