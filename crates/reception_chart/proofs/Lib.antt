pub mod BinsLemmas
pub mod ChartLemmas
pub mod LostSlotsLemmas
pub mod LostSlotsCases
