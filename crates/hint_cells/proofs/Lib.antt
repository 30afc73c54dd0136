pub mod Entries
pub mod ReadCells
pub mod Spelling
pub mod WrittenHints
