pub mod Values
pub mod Memory
pub mod Relocation
pub mod Columns
pub mod Shown
pub mod Coding
pub use Rattle.goldilocks.specs.Field
