pub mod TakenPieces
pub mod OwnStatus
pub mod Carried
pub mod Evidence
pub mod Readings
pub mod Settled
pub mod WrittenFiles
