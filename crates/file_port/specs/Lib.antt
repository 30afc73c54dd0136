pub mod Files
pub mod Counts
pub mod Ports
pub mod Seen
pub mod Kept
pub mod Disk
pub mod Replacing
