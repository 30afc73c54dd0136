pub mod Verdicts
pub mod EachItem
pub mod Groups
pub mod Edges
pub mod Acceptances
pub mod RowSteps
pub mod Descriptions
