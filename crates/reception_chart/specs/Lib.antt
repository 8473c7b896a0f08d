pub mod Axis
pub mod Bins
pub mod Chart
pub mod Places
