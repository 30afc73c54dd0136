pub mod Label
pub mod Words
pub mod Canonical
pub mod Guesses
