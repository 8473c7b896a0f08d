pub mod Boxes
pub mod Hands
pub mod Small
pub mod Moved
pub mod CodeLemmas
