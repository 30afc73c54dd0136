pub mod Limits
pub mod Fits
pub mod HintList
pub mod Shown
pub mod Cells
pub mod Format
pub mod Reading
pub use Rattle.json_fields.specs.Values
pub use Rattle.json_fields.specs.FieldTexts
pub use Rattle.json_fields.specs.Faults
pub use Rattle.json_fields.specs.Encoding
pub use Rattle.segments.specs.Values as SegmentValues
