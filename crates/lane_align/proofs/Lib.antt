pub mod HeldLemmas
pub mod MarkListLemmas
pub mod ValueLemmas
pub mod LaneLemmas
pub mod FeedLemmas
pub mod SlotLemmas
pub mod LawLemmas
