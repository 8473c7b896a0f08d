pub mod Changes
pub mod Four
pub mod Gain
pub mod LiveSchedule
pub mod Matrix
pub mod Mix
pub mod Saturated
pub mod Schedule
