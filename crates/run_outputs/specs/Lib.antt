pub mod Events
pub mod Mixes
pub mod Ends
pub mod Create
