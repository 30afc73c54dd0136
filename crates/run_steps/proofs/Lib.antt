mod Passing
pub mod Shapes
pub mod Relocated
pub mod Chains
pub mod TableCases
mod Sums
pub mod Adding
pub mod StepParts
pub mod Lying
pub mod Inside
pub mod StepStands
pub mod Reread
