pub mod Values
pub mod LimbLaws
pub mod InRange
pub mod Fillings
pub mod FirstFault
