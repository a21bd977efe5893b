pub mod Algebra
pub mod Extremes
pub mod Laws
pub mod Limits
pub mod MaxPlus
pub mod Rows
