pub mod Field
pub mod Felts
pub mod Cells
pub mod Text
pub mod Reading
pub mod Pairs
