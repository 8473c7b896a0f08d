pub mod FlowTableLemmas
pub mod StreamLemmas
pub mod TraceLemmas
pub mod RouteLemmas
mod RouteCases
mod SkewLemmas
pub mod CaptureSkewLemmas
