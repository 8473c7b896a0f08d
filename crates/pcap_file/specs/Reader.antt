-- A capture that is read from a file, record by record or block by block.
use Rattle.std.specs.Prelude.{◌≡◌, ◌⊎◌, ℕ, ◌≤◌, ◌<◌, ◌^◌, ◌++◌, Bool, true, false, List, [], ◌∷◌, length, take, map, Option, Some, None, option_map, Ok, Err}
use Rattle.std.specs.Option.{option_to_list}
use Rattle.std.specs.Io.KnownBytes.{Consumes, IsAtEnd}
use Rattle.pcap_file.specs.declared.fault.CaptureFault.{CaptureFault}
use Rattle.pcap_file.specs.declared.fault.CaptureFaultKind.TheVariants.{Truncated}
use Rattle.pcap_file.specs.declared.block_parser.CaptureBlock.{CaptureBlock}
use Rattle.pcap_file.specs.declared.block_parser.BlockParser.{BlockParser}
use Rattle.pcap_file.specs.Packet.{PacketView, packet_view}
use Rattle.pcap_file.specs.Capture.{packets_of}
use Rattle.pcap_file.specs.BlockParser.{is_cut_in, items_at}
use Rattle.pcap_file.specs.Entries.{Entry, Packet, Mark, entries_at, entries_in, entries_of}
use Rattle.pcap_file.specs.declared.fault.ReaderFault.{ReaderFault}
use Rattle.pcap_file.specs.declared.fault.ReaderFault.TheVariants.{ReadFailed, Capture, TooLong, Memory}

-- the packets among entries
abbrev pub packets_among : List Entry → List PacketView
packets_among [] = []
packets_among (Packet packet ∷ entries) = packet ∷ packets_among entries
packets_among (Mark mark ∷ entries) = packets_among entries

-- the first entries of a file are these, and its first packets are theirs; the other entries are in the octets that are
-- held and in the rest of the file
pub record HasReturned (file : List ℕ) (entries : List Entry) (left : Option (List ℕ)) (parts : BlockParser) (held : List ℕ) (ended : Bool) : Type 0 where
  pub rest : List ℕ
  pub left_is : left ≡ Some rest
  pub packets : packets_of file ≡ map Ok (packets_among entries) ++ items_at parts (held ++ rest)
  pub all : entries_of file ≡ entries ++ entries_at parts (held ++ rest)
  pub end : ended ≡ true → rest ≡ []

-- the file has these entries, and no fault
pub record HasEntries (file : List ℕ) (entries : List Entry) : Type 0 where
  pub packets : packets_of file ≡ map Ok (packets_among entries)
  pub all : entries_of file ≡ entries

-- behind these entries the file ends within a record or a block
pub record IsCutBehind (file : List ℕ) (entries : List Entry) : Type 0 where
  pub parts : BlockParser
  pub left : List ℕ
  pub some : 1 ≤ length left
  pub cut : is_cut_in parts left ≡ true
  pub packets : packets_of file ≡ map Ok (packets_among entries) ++ items_at parts left
  pub all : entries_of file ≡ entries ++ entries_at parts left

-- the fault of the rest of a file that was read to its end: none if there is no octet; otherwise the record or block
-- there is cut
abbrev pub cut_fault_of : BlockParser → List ℕ → Option CaptureFault
cut_fault_of parts [] = None
cut_fault_of parts (octet ∷ octets) = Some (record { place = parts.place; kind = Truncated })

-- behind these entries the file ends within the record or the block that begins at the place of this fault
pub record IsCutBy (file : List ℕ) (entries : List Entry) (fault : CaptureFault) : Type 0 where
  pub cut : IsCutBehind file entries
  pub place : fault.place ≡ cut.parts.place
  pub kind : fault.kind ≡ Truncated

-- the file has these entries and no fault; or it ends with this fault, within a record or block behind the entries
abbrev pub EndsWith : List ℕ → List Entry → Option CaptureFault → Type 0
EndsWith file entries None = HasEntries file entries
EndsWith file entries (Some fault) = IsCutBy file entries fault

-- behind these entries the next record or block has this fault
pub record IsFaultBehind (file : List ℕ) (entries : List Entry) (fault : CaptureFault) : Type 0 where
  pub packets : packets_of file ≡ map Ok (packets_among entries) ++ Err fault ∷ []
  pub all : entries_of file ≡ entries

-- the packet of a record or a block, if it has one
abbrev pub packets_in : CaptureBlock → List PacketView
packets_in part = option_to_list (option_map packet_view part.packet)

-- the packet and the mark of a record or a block
abbrev pub part_entries : CaptureBlock → List Entry
part_entries part = entries_in (option_map packet_view part.packet) part.mark

-- the octets that are held show the header of the file, or are the whole file
pub record HasOpened (left left_then : Option (List ℕ)) (held : List ℕ) (ended : Bool) : Type 0 where
  pub read : Consumes left left_then held
  pub few : length held < 983040
  pub enough : ended ≡ false → 24 ≤ length held
  pub end : ended ≡ true → IsAtEnd left_then

-- the next record or block is whole within the octets of `front`, or these are the rest of the file
abbrev pub IsFilled : BlockParser → List ℕ → Bool → Type 0
IsFilled parts held ended = (is_cut_in parts (take 983040 held) ≡ false) ⊎ ((ended ≡ true) × (length held < 983040))

-- there is a next record or block
pub record IsNext (parts : BlockParser) (held : List ℕ) (ended : Bool) : Type 0 where
  pub some : 1 ≤ length held
  pub filled : IsFilled parts held ended
  pub place : parts.place ≤ 2 ^ 63

-- a read failed, or the next record or block is too long
abbrev pub IsLong : ReaderFault → Type 0
IsLong ReadFailed = Unit {0}
IsLong (Capture fault) = ⊥
IsLong (TooLong place) = Unit {0}
IsLong Memory = ⊥

-- the reason why a file was not opened: its fault, a failed read, or a failed allocation
abbrev pub IsOpenFault : List ℕ → ReaderFault → Type 0
IsOpenFault file ReadFailed = Unit {0}
IsOpenFault file (Capture fault) = packets_of file ≡ Err fault ∷ []
IsOpenFault file (TooLong place) = ⊥
IsOpenFault file Memory = Unit {0}
