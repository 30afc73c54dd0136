pub mod NumberTexts
pub mod ReadValues
pub mod ReadBack
pub mod WrittenTokens
pub mod Steps
pub mod Parts
