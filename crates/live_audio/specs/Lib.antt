pub mod AudioWriter
pub mod Parts
pub mod PcmProducer
pub mod PcmWriter
pub mod Producer
pub mod RingOctets
