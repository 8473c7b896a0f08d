pub mod Held
pub mod Opened
pub mod Moves
pub mod Codes
pub mod Records
pub mod Texts
