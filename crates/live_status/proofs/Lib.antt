pub mod Each
mod PathSecondCases
pub mod FilledHealth
pub mod SnapshotLines
pub mod ShownSnapshots
pub mod Outputs
pub mod Conditions
pub mod EngineStatusLemmas
