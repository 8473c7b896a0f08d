pub mod LayLemmas
pub mod MixerLemmas
pub mod ReadyLemmas
pub mod RowLemmas
pub mod BlockLemmas
pub mod MissingLemmas
pub mod LastLemmas
pub mod NextLemmas
pub mod NewLemmas
pub mod CapacityLemmas
pub mod LawLemmas
pub mod SaturatedLemmas
pub mod FirstBlockLemmas
pub mod ChangedLemmas
pub mod TakenLemmas
pub mod WholeLemmas
mod MissingCases
mod WorkedCases
