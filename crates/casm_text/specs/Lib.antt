pub mod TextReading
pub mod Meaning
pub mod Canonical
pub mod Views
pub mod Bounds
pub use Rattle.casm_tokens.specs.Limits
