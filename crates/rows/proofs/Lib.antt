pub mod Extremes
pub mod Inside
pub mod Limits
pub mod Options
pub mod Order
pub mod Sums
pub mod Tests
