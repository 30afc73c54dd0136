pub mod Places
pub mod Layouts
pub mod FileNumbers
pub mod RecordLists
pub mod GoodBytes
pub mod Spelled
