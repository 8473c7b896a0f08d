pub mod ViewLemmas
pub mod AddressLemmas
mod AddressCases
pub mod FaultLemmas
pub mod GainLemmas
pub mod PortLemmas
pub mod ShiftLemmas
pub mod StepLemmas
