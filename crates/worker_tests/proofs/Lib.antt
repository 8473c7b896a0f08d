pub mod OneStreamLemmas
