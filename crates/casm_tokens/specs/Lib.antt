pub mod Limits
pub mod Marks
pub mod Tokens
pub mod Lines
pub mod Pieces
pub mod Views
pub mod FaultText
