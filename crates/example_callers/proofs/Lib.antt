pub mod EngineLemmas
pub mod MixLemmas
pub mod ReceiveLemmas
