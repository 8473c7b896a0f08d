pub mod BlockLemmas
pub mod AlignedLemmas
mod AlignedCases
