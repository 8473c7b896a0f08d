pub mod AudioLemmas
pub mod PcmLemmas
pub mod PartLemmas
