pub mod TextLemmas
pub mod ReportLemmas
pub mod LatestStatsLemmas
pub mod StreamStatusLemmas
pub mod OutputEndLemmas
pub mod RunLemmas
mod RingPlacesCases
