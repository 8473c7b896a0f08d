pub mod Samples
pub mod Header
pub mod File
pub mod LiveFile
pub mod Bext
pub mod MixSamples
pub mod PartFile
