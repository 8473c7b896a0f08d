pub mod CaptureLemmas
pub mod DecimalLemmas
pub mod FrontLemmas
pub mod InterfaceLemmas
pub mod EntryLemmas
pub mod OptionsLemmas
pub mod BlockParserLemmas
pub mod SectionLemmas
mod ReadBufferLemmas
mod ReaderLemmas
mod DescribedLemmas
pub mod ReaderEntryLemmas
mod PiecesLemmas
mod OverwritesLemmas
mod PacketLemmas
mod OctetLemmas
mod OptionLemmas
mod WholeLemmas
mod OpeningLemmas
mod WriteInterfaceLemmas
mod ChangeLemmas
mod ClosingLemmas
mod FrameLemmas
mod DatagramLemmas
mod WrittenRecordLemmas
mod WholeBlocksLemmas
