pub mod ConnectionsLemmas
pub mod ControlLemmas
pub mod IntegerLemmas
pub mod BodyLemmas
pub mod ShownLemmas
