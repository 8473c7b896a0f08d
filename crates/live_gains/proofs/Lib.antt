pub mod GainChangeLemmas
pub mod PageRequesterLemmas
pub mod PlannedLemmas
