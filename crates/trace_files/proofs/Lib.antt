pub mod Chunks
pub mod TraceFile
pub mod MemoryFile
pub mod MemoryLookup
pub mod Rising
pub mod WorkedFiles
