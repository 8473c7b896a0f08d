pub mod LiveLines
pub mod TokenFile
