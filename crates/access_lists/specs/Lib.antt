pub mod Accesses
pub mod SmallValues
pub use Rattle.goldilocks.specs.Cells
