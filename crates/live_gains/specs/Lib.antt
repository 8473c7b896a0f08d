pub mod Planned
pub mod GainMessages
pub mod GainMemory
pub mod GainChannel
pub mod PageRequester
pub mod KeptText
pub mod Noted
