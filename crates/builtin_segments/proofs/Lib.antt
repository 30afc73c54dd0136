pub mod StartMemory
pub mod Adding
