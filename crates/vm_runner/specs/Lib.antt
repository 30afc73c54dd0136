pub mod Run
pub mod Completes
pub mod Shown
pub use Rattle.segments.specs.Values
pub use Rattle.segments.specs.Memory
pub use Rattle.program_file.specs.Listing
pub use Rattle.public_input.specs.Limits
pub use Rattle.hint_cells.specs.HintList
pub use Rattle.hint_cells.specs.Limits as HintLimits
pub use Rattle.builtin_segments.specs.Layout
pub use Rattle.builtin_segments.specs.Rules
pub use Rattle.builtin_segments.specs.Start
pub use Rattle.run_steps.specs.Step
pub use Rattle.run_steps.specs.ValueRun
