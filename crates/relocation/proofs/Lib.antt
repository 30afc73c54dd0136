pub mod Listed
pub mod Walk
pub mod Cells
pub mod CellMemory
pub mod RunInField
pub mod RunLaws
