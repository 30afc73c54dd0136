pub mod Directives
pub mod Language
pub mod Grammar
pub mod Seen
pub mod Readers
pub mod Views
