pub mod AllowedLemmas
pub mod EditLemmas
pub mod ImportedConfigLemmas
pub mod SharedPlaceCases
pub mod SharedPlaceLemmas
pub mod SimilarKeyCases
