pub mod FieldTexts
pub mod Values
pub mod Faults
pub mod Plain
pub mod Encoding
pub use Rattle.goldilocks.specs.Field
pub use Rattle.goldilocks.specs.Text
