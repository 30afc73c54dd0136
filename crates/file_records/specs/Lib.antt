pub mod Numbers
pub mod Records
pub use Rattle.goldilocks.specs.Field
