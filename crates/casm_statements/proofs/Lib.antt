pub mod Guesses
pub mod Felts
pub mod Ascii
