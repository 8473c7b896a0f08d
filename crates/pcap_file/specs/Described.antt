-- The interfaces that a capture describes before its first packet, block by block.
use Rattle.std.specs.Prelude.{◌≡◌, ◌-◌, ℕ, zero, suc, Bool, true, List, [], ◌∷◌, ◌++◌, take, drop, Option, Some, None, Result, Ok, Err, if◌then◌else◌}
use Rattle.std.specs.Option.{option_to_list}
use Rattle.pcap_file.specs.declared.cursor.Format.{Format}
use Rattle.pcap_file.specs.declared.cursor.Format.TheVariants as format
use Rattle.pcap_file.specs.declared.fault.CaptureFaultKind.{CaptureFaultKind}
use Rattle.pcap_file.specs.declared.block_parser.BlockParser.{BlockParser}
use Rattle.pcap_file.specs.declared.decode.pcap.Pcap.{Pcap}
use Rattle.pcap_file.specs.Packet.{PacketView}
use Rattle.pcap_file.specs.Pcap.{pcap_of}
use Rattle.pcap_file.specs.Section.{Block, no_section}
use Rattle.pcap_file.specs.Capture.{State, is_pcapng, part_of}
use Rattle.pcap_file.specs.BlockParser.{state_at}
use Rattle.pcap_file.specs.InterfaceTexts.{TextsView, texts_as}

-- the texts of a block before those of the blocks behind it; none from a packet on
abbrev pub texts_with : Option PacketView → Option TextsView → List TextsView → List TextsView
texts_with None own later = option_to_list own ++ later
texts_with (Some packet) own later = []

-- the texts of the block that octets begin with, before those of the octets behind it; none from a fault on
abbrev pub texts_after : Format → List ℕ → (Block → List TextsView) → Result Block CaptureFaultKind → List TextsView
texts_after form octets rest (Ok block) = texts_with block.part.packet (texts_as form block.section.order (take block.part.len octets)) (rest block)
texts_after form octets rest (Err kind) = []

-- the texts of the adjacent blocks after `count` octets
unfoldable pub texts_past : ℕ → State → List ℕ → List TextsView
texts_past count state [] = []
texts_past (suc count) state (octet ∷ octets) = texts_past count state octets
texts_past zero state (octet ∷ octets) =
    texts_after state.format (octet ∷ octets)
    (λ block. texts_past (block.part.len - 1) (record { format = state.format; section = block.section }) octets)
    (part_of state (octet ∷ octets))

-- the texts of the adjacent blocks that octets begin with
abbrev pub texts_from : State → List ℕ → List TextsView
texts_from state octets = texts_past 0 state octets

-- the texts of a file behind its pcap header
abbrev pub texts_behind : List ℕ → Result Pcap CaptureFaultKind → List TextsView
texts_behind octets (Ok pcap) = texts_from (record { format = format.Pcap pcap; section = no_section }) (drop 24 octets)
texts_behind octets (Err kind) = []

-- the texts of the interfaces of a file before its first packet or fault, in order
unfoldable pub interfaces_of : List ℕ → List TextsView
interfaces_of octets =
    if is_pcapng octets
    then texts_from (record { format = format.Pcapng; section = no_section }) octets
    else texts_behind octets (pcap_of octets)

-- the texts of a capture whose octets from the parser's place on are these
abbrev pub texts_at : BlockParser → List ℕ → List TextsView
texts_at parts octets = texts_from (state_at parts) octets

-- the first interfaces of a file have these texts; the others are in the octets that are held and in the rest of the file
pub record HasDescribed (file : List ℕ) (texts : List TextsView) (left : Option (List ℕ)) (parts : BlockParser) (held : List ℕ) (ended : Bool) : Type 0 where
  pub rest : List ℕ
  pub left_is : left ≡ Some rest
  pub all : interfaces_of file ≡ texts ++ texts_at parts (held ++ rest)
  pub end : ended ≡ true → rest ≡ []

-- the block of `len` octets with this packet is passed over: before a packet its texts are further ones
abbrev pub DescribesNext : List ℕ → List TextsView → Option (List ℕ) → BlockParser → List ℕ → Bool → ℕ → Option PacketView → Type 0
DescribesNext file texts left next held ended len None =
    HasDescribed file (texts ++ option_to_list (texts_as next.format next.section.order (take len held))) left next (drop len held) ended
DescribesNext file texts left next held ended len (Some packet) = interfaces_of file ≡ texts
