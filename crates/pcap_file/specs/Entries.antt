-- The entries of a capture, record by record or block by block: its UDP packets, and its marks of a record.
use Rattle.std.specs.Prelude.{◌-◌, ℕ, zero, suc, List, [], ◌∷◌, ◌++◌, map, drop, Option, Result, Ok, Err, if◌then◌else◌}
use Rattle.std.specs.Option.{option_to_list}
use Rattle.pcap_file.specs.declared.cursor.Format.TheVariants as format
use Rattle.pcap_file.specs.declared.fault.CaptureFaultKind.{CaptureFaultKind}
use Rattle.pcap_file.specs.declared.decode.record_mark.RecordMark.{RecordMark}
use Rattle.pcap_file.specs.declared.block_parser.BlockParser.{BlockParser}
use Rattle.pcap_file.specs.declared.decode.pcap.Pcap.{Pcap}
use Rattle.pcap_file.specs.Packet.{PacketView}
use Rattle.pcap_file.specs.Pcap.{pcap_of}
use Rattle.pcap_file.specs.Section.{Block, no_section}
use Rattle.pcap_file.specs.Capture.{State, is_pcapng, part_of}
use Rattle.pcap_file.specs.BlockParser.{state_at}

-- a packet, or the mark of a record
pub data Entry : Type 0 where
  Packet : PacketView → Entry
  Mark : RecordMark → Entry

-- the entries in a record or a block: its packet, if it has one, and its mark, if it has one
abbrev pub entries_in : Option PacketView → Option RecordMark → List Entry
entries_in packet mark = map Packet (option_to_list packet) ++ map Mark (option_to_list mark)

-- the entries of a block before those of the octets behind it; none from a fault on
abbrev pub entries_after : (Block → List Entry) → Result Block CaptureFaultKind → List Entry
entries_after rest (Ok block) = entries_in block.part.packet block.part.mark ++ rest block
entries_after rest (Err kind) = []

-- the entries of the adjacent records or blocks after `count` octets
unfoldable pub entries_past : ℕ → State → List ℕ → List Entry
entries_past count state [] = []
entries_past (suc count) state (octet ∷ octets) = entries_past count state octets
entries_past zero state (octet ∷ octets) =
    entries_after
    (λ block. entries_past (block.part.len - 1) (record { format = state.format; section = block.section }) octets)
    (part_of state (octet ∷ octets))

-- the entries of the adjacent records or blocks that octets begin with
abbrev pub entries_from : State → List ℕ → List Entry
entries_from state octets = entries_past 0 state octets

-- the entries of a file behind its pcap header
abbrev pub entries_behind : List ℕ → Result Pcap CaptureFaultKind → List Entry
entries_behind octets (Ok pcap) = entries_from (record { format = format.Pcap pcap; section = no_section }) (drop 24 octets)
entries_behind octets (Err kind) = []

-- the entries of a file up to its first fault, in order
unfoldable pub entries_of : List ℕ → List Entry
entries_of octets =
    if is_pcapng octets
    then entries_from (record { format = format.Pcapng; section = no_section }) octets
    else entries_behind octets (pcap_of octets)

-- the entries of a capture whose octets from the parser's place on are these
abbrev pub entries_at : BlockParser → List ℕ → List Entry
entries_at parts octets = entries_from (state_at parts) octets
