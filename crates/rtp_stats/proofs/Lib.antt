pub mod CountLemmas
pub mod EntryLemmas
pub mod MissedLemmas
pub mod SecondLemmas
pub mod MedianLemmas
pub mod AnswerLemmas
pub mod TallyLemmas
pub mod RepeatLemmas
pub mod DriftLemmas
pub mod DeadlineLemmas
pub mod GivenUpLemmas
pub mod PeakLemmas
pub mod LawLemmas
mod WorkedCases
mod DriftCases
pub mod Takes
