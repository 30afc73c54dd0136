pub mod Order
pub mod Difference
pub mod Climbing
pub mod Gaps
pub mod Parts
