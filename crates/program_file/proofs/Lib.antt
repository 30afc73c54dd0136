pub mod Entries
pub mod BuiltinLists
pub mod Spelling
pub mod WrittenPrograms
