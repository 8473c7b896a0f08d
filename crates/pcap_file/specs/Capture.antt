-- The UDP packets of a capture: of a pcap file, record by record, or of a pcapng file, block by block.
use Rattle.std.specs.Prelude.{◌≡◌, ◌+◌, ◌-◌, ℕ, zero, suc, Bool, List, [], ◌∷◌, length, drop, Option, Some, None, Result, Ok, Err, MatchResult, nat_le, ◌&&◌, if◌then◌else◌}
use Rattle.std.specs.Result.{result_map_both}
use Rattle.pcap_file.specs.declared.cursor.Format.{Format}
use Rattle.pcap_file.specs.declared.cursor.Format.TheVariants as format
use Rattle.pcap_file.specs.declared.cursor.Capture.{Capture}
use Rattle.pcap_file.specs.declared.decode.pcap.Pcap.{Pcap}
use Rattle.pcap_file.specs.declared.block_parser.CaptureBlock.{CaptureBlock}
use Rattle.pcap_file.specs.declared.decode.Packet.{Packet}
use Rattle.pcap_file.specs.declared.fault.CaptureFaultKind.{CaptureFaultKind}
use Rattle.pcap_file.specs.declared.fault.CaptureFault.{CaptureFault}
use Rattle.pcap_file.specs.Packet.{PacketView, packet_view}
use Rattle.pcap_file.specs.CaptureBlock.{PartView, part_view}
use Rattle.pcap_file.specs.Pcap.{pcap_of, record_of}
use Rattle.pcap_file.specs.Section.{SectionView, Block, no_section, is_section_header, block_of, section_view}

-- an item of a capture: a packet, or the first fault
abbrev pub Item : Type 0
Item = Result PacketView CaptureFault

-- the format, and the state of the section after the blocks so far
pub record State : Type 0 where
  pub format : Format
  pub section : SectionView

-- a pcap record does not change the section
abbrev pub record_in : SectionView → Result PartView CaptureFaultKind → Result Block CaptureFaultKind
record_in section (Ok part) = Ok (record { part = part; section = section })
record_in section (Err kind) = Err kind

-- the record or the block that octets begin with
unfoldable pub part_as : Format → SectionView → List ℕ → Result Block CaptureFaultKind
part_as (format.Pcap pcap) section octets = record_in section (record_of pcap octets)
part_as format.Pcapng section octets = block_of section octets

abbrev pub part_of : State → List ℕ → Result Block CaptureFaultKind
part_of state octets = part_as state.format state.section octets

-- a packet, if there is one, before others
abbrev pub with_packet : Option PacketView → List Item → List Item
with_packet None items = items
with_packet (Some packet) items = Ok packet ∷ items

-- a part's packet before the items of the octets behind it, or its fault at its place
abbrev pub items_after : ℕ → (Block → List Item) → Result Block CaptureFaultKind → List Item
items_after place rest (Ok block) = with_packet block.part.packet (rest block)
items_after place rest (Err kind) = Err (record { place = place; kind = kind }) ∷ []

-- the items of the adjacent records or blocks from a place on, after `count` octets
unfoldable pub packets_past : ℕ → State → ℕ → List ℕ → List Item
packets_past count state place [] = []
packets_past (suc count) state place (octet ∷ octets) = packets_past count state place octets
packets_past zero state place (octet ∷ octets) =
    items_after place
    (λ block. packets_past (block.part.len - 1) (record { format = state.format; section = block.section }) (place + block.part.len) octets)
    (part_of state (octet ∷ octets))

-- the items of the adjacent records or blocks from a place on
abbrev pub packets_from : State → ℕ → List ℕ → List Item
packets_from state place octets = packets_past 0 state place octets

-- the items of a file behind its pcap header, or the header's fault
abbrev pub packets_behind : List ℕ → Result Pcap CaptureFaultKind → List Item
packets_behind octets (Ok pcap) = packets_from (record { format = format.Pcap pcap; section = no_section }) 24 (drop 24 octets)
packets_behind octets (Err kind) = Err (record { place = 0; kind = kind }) ∷ []

-- a section header's block is first
abbrev pub is_pcapng : List ℕ → Bool
is_pcapng octets = nat_le 4 (length octets) && is_section_header octets

-- the packets of a file, and its first fault: it begins with a section header's block, or with the header of a pcap
-- file
unfoldable pub packets_of : List ℕ → List Item
packets_of octets =
    if is_pcapng octets
    then packets_from (record { format = format.Pcapng; section = no_section }) 0 octets
    else packets_behind octets (pcap_of octets)

-- the views of the values in the code
abbrev pub state_of : Capture → State
state_of c = record { format = c.format; section = section_view c.section }

abbrev pub packets_left : Capture → List Item
packets_left c = packets_from (state_of c) c.place c.octets.now

abbrev pub item_view : Result Packet CaptureFault → Item
item_view item = result_map_both packet_view (λ fault. fault) item

-- a call read the part that octets begin with, and left the state after it, or returned the part's fault
abbrev pub HasRead : State → State → List ℕ → Result CaptureBlock CaptureFaultKind → Type 0
HasRead old new octets result =
    MatchResult result
    (λ part. (part_of old octets ≡ Ok (record { part = part_view part; section = new.section })) × (new.format ≡ old.format))
    (λ kind. part_of old octets ≡ Err kind)
