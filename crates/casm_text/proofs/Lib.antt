pub mod TextReading
pub mod Columns
pub mod Parses
pub mod Prints
pub mod Fits
pub mod Shows
pub mod ReadsBack
pub mod TextLaws
