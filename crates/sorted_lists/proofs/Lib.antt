pub mod InOrder
pub mod Differences
pub mod Neighbours
pub mod Steps
pub mod Absent
pub mod Occurrences
pub mod Tables
