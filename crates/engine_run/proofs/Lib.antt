pub mod GroupLemmas
pub mod RoundLemmas
pub mod AnswerLemmas
pub mod AskLemmas
pub mod TellLemmas
pub mod TakeLemmas
pub mod FeedFaultLemmas
mod FeedFaultCases
pub mod SendLemmas
pub mod RunLemmas
pub mod GainRequestLemmas
pub mod CountLemmas
