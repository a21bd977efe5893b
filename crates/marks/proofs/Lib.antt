pub mod Choices
pub mod Clamps
pub mod Parts
pub mod Turning
pub mod TurningTwice
