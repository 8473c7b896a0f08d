pub mod Engine
pub mod Mix
pub mod Receive
pub mod Report
