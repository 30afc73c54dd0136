pub mod FirstFaults
pub mod WholeFiles
pub mod Heads
pub mod Spellings
pub mod Writings
pub mod Readings
pub mod Lengths
