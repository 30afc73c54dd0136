pub mod Values
pub mod Places
pub mod Slots
pub mod Columns
pub mod Addresses
pub mod Memories
pub mod Relocations
pub mod Worked
