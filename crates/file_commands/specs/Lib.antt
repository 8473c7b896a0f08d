pub mod ImportedConfig
pub mod ReplayedStudio
pub mod SharedPlace
pub mod SimilarKey
pub mod Warning
