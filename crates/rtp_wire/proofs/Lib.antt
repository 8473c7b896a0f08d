pub mod OctetsLemmas
pub mod DatagramLemmas
pub mod SampleLemmas
