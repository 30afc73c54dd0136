mod Ascending
mod Cells
mod Tokens
pub mod Spellings
pub mod ReadsBack
