pub mod Names
pub mod Numbers
pub mod Forms
pub mod Calls
pub use Rattle.file_port.specs.Files
