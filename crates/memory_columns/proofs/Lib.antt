pub mod WorkedRows
pub mod Cells
pub mod PairFaults
pub mod OneMemory
pub mod Fillings
