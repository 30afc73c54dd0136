pub mod Numbers
pub mod Choices
pub mod Bits
pub mod EachEquation
pub mod StepOfRow
pub mod RowOfStep
pub mod OneRow
pub mod Excluded
pub mod Failing
pub mod Faults
pub mod FaultsOfRows
pub mod BuiltRows
mod WorkedRows
