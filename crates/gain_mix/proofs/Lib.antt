pub mod SumLemmas
pub mod RowLemmas
pub mod FrameLemmas
pub mod ChangeLemmas
pub mod SilenceLemmas
pub mod SaturatedLemmas
pub mod LiveScheduleLemmas
mod WorkedCases
