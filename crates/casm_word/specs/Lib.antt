pub mod Length
pub mod Word
pub mod Transition
pub mod Run
pub mod Text
