-- The blocks of a section, by their kinds.
use Rattle.std.proofs.Common.{◌≡◌, List, ℕ, ap, refl, Option, None, Result, Ok, Err}
use Rattle.pcap_file.specs.declared.decode.Packet.{Packet}
use Rattle.pcap_file.specs.declared.fault.CaptureFaultKind.{CaptureFaultKind}
use Rattle.pcap_file.specs.declared.decode.pcapng.BlockKind.{BlockKind}
use Rattle.pcap_file.specs.declared.decode.pcapng.BlockKind.TheVariants as kind
use Rattle.pcap_file.specs.Chain.{and_then}
use Rattle.pcap_file.specs.Packet.{PacketView}
use Rattle.pcap_file.specs.Section.{SectionView, GivesContent, GivesPacket, begun_by, described_by, enhanced_of, simple_of, content_as, same_section}

-- a block after which the section stays, as a call answered its packet
same : (defined : Result (Option PacketView) CaptureFaultKind) (section : SectionView) (result : Result (Option Packet) CaptureFaultKind)
    → GivesPacket defined result → GivesContent (and_then defined (same_section section)) section result
same defined section (Ok packet) answers = ap (λ r. and_then r (same_section section)) answers
same defined section (Err f) answers = ap (λ r. and_then r (same_section section)) answers

-- the result for each kind
pub GivesContent-header : (old new : SectionView) (block : List ℕ) (k : BlockKind) (result : Result (Option Packet) CaptureFaultKind)
    → k ≡ kind.SectionHeader → GivesContent (begun_by old block) new result → GivesContent (content_as k old block) new result
unfolding content_as
GivesContent-header old new block k result e answers = rw e answers

pub GivesContent-interface : (old new : SectionView) (block : List ℕ) (k : BlockKind) (result : Result (Option Packet) CaptureFaultKind)
    → k ≡ kind.Interface → GivesContent (described_by old block) new result → GivesContent (content_as k old block) new result
unfolding content_as
GivesContent-interface old new block k result e answers = rw e answers

pub GivesContent-simple : (old : SectionView) (block : List ℕ) (k : BlockKind) (result : Result (Option Packet) CaptureFaultKind)
    → k ≡ kind.SimplePacket → GivesPacket (simple_of old block) result → GivesContent (content_as k old block) old result
unfolding content_as
GivesContent-simple old block k result e answers = rw e (same (simple_of old block) old result answers)

pub GivesContent-enhanced : (old : SectionView) (block : List ℕ) (k : BlockKind) (result : Result (Option Packet) CaptureFaultKind)
    → k ≡ kind.EnhancedPacket → GivesPacket (enhanced_of old block) result → GivesContent (content_as k old block) old result
unfolding content_as
GivesContent-enhanced old block k result e answers = rw e (same (enhanced_of old block) old result answers)

pub content_as-other : (section : SectionView) (block : List ℕ) (k : BlockKind)
    → k ≡ kind.Other → content_as k section block ≡ same_section section None
unfolding content_as
content_as-other section block k e = rw e refl
