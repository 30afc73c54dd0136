pub mod TraceFile
pub mod MemoryFile
pub mod CellList
pub mod Faults
pub use Rattle.goldilocks.specs.Field
pub use Rattle.goldilocks.specs.Cells
pub use Rattle.file_records.specs.Numbers
pub use Rattle.casm_word.specs.Transition
