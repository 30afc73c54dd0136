pub mod Layout
pub mod Used
pub mod Start
pub mod Filling
pub mod Rules
pub mod Shown
pub use Rattle.segments.specs.Values
pub use Rattle.segments.specs.Memory
pub use Rattle.program_file.specs.Listing
pub use Rattle.hint_cells.specs.Limits as HintLimits
