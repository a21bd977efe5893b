pub mod Bounds
pub mod Faults
pub mod Fits
pub mod Meaning
pub mod Opposites
pub mod Twice
