pub mod Report
pub mod RunResult
pub mod LatestStats
pub mod StreamStatus
pub mod RunText
pub mod PathPlace
pub mod ShownHealth
pub mod RingPlaces
