pub mod Asm
pub mod Check
pub mod Dis
pub mod Run
pub mod Tables
pub mod Walk
