pub mod FileLemmas
pub mod LiveLemmas
pub mod HeaderLemmas
pub mod SamplesLemmas
pub mod SilenceLemmas
pub mod PartLemmas
