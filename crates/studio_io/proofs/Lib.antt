pub mod AnswerLemmas
pub mod GainLemmas
pub mod SumLemmas
mod SendSumsCases
pub mod FaultLemmas
mod FaultCases
