-- A section of the pcapng format, block by block (draft-ietf-opsawg-pcapng, General File Structure and Block
-- Definitions).
use Rattle.std.specs.Prelude.{◌≡◌, ◌+◌, ◌-◌, ◌%◌, ℕ, Bool, List, [], ◌∷◌, ◌++◌, length, take, slice_get, slice_range, Option, Some, None, option_map, Result, Ok, Err, MatchResult, nat_lt, ◌==◌, not, ◌&&◌, ◌||◌, if◌then◌else◌}
use Rattle.pcap_file.specs.declared.decode.endian.Endian.{Endian}
use Rattle.pcap_file.specs.declared.decode.endian.Endian.TheVariants.{Big, Little}
use Rattle.pcap_file.specs.declared.decode.interface.Interface.{Interface}
use Rattle.pcap_file.specs.declared.decode.pcapng.Section.{Section}
use Rattle.pcap_file.specs.declared.decode.pcapng.BlockKind.{BlockKind}
use Rattle.pcap_file.specs.declared.decode.pcapng.BlockKind.TheVariants as kind
use Rattle.pcap_file.specs.declared.decode.Packet.{Packet}
use Rattle.pcap_file.specs.declared.fault.CaptureFaultKind.{CaptureFaultKind}
use Rattle.pcap_file.specs.declared.fault.CaptureFaultKind.TheVariants as fault
use Rattle.pcap_file.specs.Octets.{number_at}
use Rattle.pcap_file.specs.Chain.{and_then}
use Rattle.pcap_file.specs.Interface.{interface_of, time_of, time_units}
use Rattle.pcap_file.specs.Packet.{PacketView, packet_in, packet_view}
use Rattle.pcap_file.specs.Mark.{mark_of}
use Rattle.pcap_file.specs.CaptureBlock.{PartView}

-- the state of a section after its blocks so far: its byte order, and its interfaces by number
pub record SectionView : Type 0 where
  pub order : Endian
  pub interfaces : List Interface

-- the content of a block: a UDP packet, if it has one, and the section after the block
pub record Content : Type 0 where
  pub packet : Option PacketView
  pub section : SectionView

-- the content of a block with the block's length and mark
pub record Block : Type 0 where
  pub part : PartView
  pub section : SectionView

-- the state before the first block
abbrev pub no_section : SectionView
no_section = record { order = Big; interfaces = [] }

-- a section header's type is first; it is the same in either byte order
abbrev pub is_section_header : List ℕ → Bool
is_section_header octets = number_at Big 4 0 octets == 0x0a0d0d0a

-- the byte order of a block: that of its section, or for a section header that of its magic number
unfoldable pub order_of : Endian → List ℕ → Result Endian CaptureFaultKind
order_of order octets =
    if not (is_section_header octets) then Ok order
    else (if number_at Big 4 8 octets == 0x1a2b3c4d then Ok Big
    else (if number_at Little 4 8 octets == 0x1a2b3c4d then Ok Little else Err fault.ByteOrder))

-- the length field of a block: a multiple of four, at least the block's own fields, within the file, and the same at
-- its end
unfoldable pub length_of : Endian → List ℕ → Result ℕ CaptureFaultKind
length_of order octets =
    if nat_lt (number_at order 4 4 octets) 12 || not (number_at order 4 4 octets % 4 == 0) then Err fault.Length
    else (if nat_lt (length octets) (number_at order 4 4 octets) then Err fault.Truncated
    else (if number_at order 4 (number_at order 4 4 octets - 4) octets == number_at order 4 4 octets
    then Ok (number_at order 4 4 octets) else Err fault.Length))

-- the interface with a number
abbrev pub found_interface : Option Interface → Result Interface CaptureFaultKind
found_interface None = Err fault.Interface
found_interface (Some interface) = Ok interface

unfoldable pub interface_at : SectionView → ℕ → Result Interface CaptureFaultKind
interface_at section number = found_interface (slice_get section.interfaces number)

-- the fault of a section header: it is too short, or its version isn't 1.0 or 1.2
unfoldable pub section_fault : Endian → List ℕ → Option CaptureFaultKind
section_fault order block =
    if nat_lt (length block) 28 then Some fault.Length
    else (if not (number_at order 2 12 block == 1) then Some fault.Version
    else (if number_at order 2 14 block == 0 || number_at order 2 14 block == 2 then None else Some fault.Version))

-- the captured length in an enhanced packet block
abbrev pub enhanced_captured : Endian → List ℕ → ℕ
enhanced_captured order block = number_at order 4 20 block

-- the UDP packet of an enhanced packet block, given its time
abbrev pub enhanced_at : Endian → List ℕ → Interface → Option ℕ → Result (Option PacketView) CaptureFaultKind
enhanced_at order block interface None = Err fault.Time
enhanced_at order block interface (Some time) =
    Ok (packet_in interface.link (Some time) (number_at order 4 8 block) (slice_range block 28 (28 + enhanced_captured order block)))

-- the UDP packet of an enhanced packet block on this interface: 28 octets are before the frame, and at least 4 behind
-- it
abbrev pub enhanced_in : Endian → List ℕ → Interface → Result (Option PacketView) CaptureFaultKind
enhanced_in order block interface =
    if nat_lt (length block) (32 + enhanced_captured order block) then Err fault.Length
    else enhanced_at order block interface (time_of interface (time_units order block))

-- the UDP packet in an enhanced packet block
unfoldable pub enhanced_of : SectionView → List ℕ → Result (Option PacketView) CaptureFaultKind
enhanced_of section block =
    if nat_lt (length block) 32 then Err fault.Length
    else and_then (interface_at section (number_at section.order 4 8 block)) (enhanced_in section.order block)

-- the captured length of a packet in a simple packet block: at most the interface's limit, if there is one
abbrev pub captured_of : Interface → ℕ → ℕ
captured_of interface original =
    if not (interface.limit == 0) && nat_lt interface.limit original then interface.limit else original

-- the UDP packet of a simple packet block on this interface: 12 octets are before the frame, and at least 4 behind it;
-- it has no time
abbrev pub simple_in : Endian → List ℕ → Interface → Result (Option PacketView) CaptureFaultKind
simple_in order block interface =
    if nat_lt (length block) (16 + captured_of interface (number_at order 4 8 block)) then Err fault.Length
    else Ok (packet_in interface.link None 0 (slice_range block 12 (12 + captured_of interface (number_at order 4 8 block))))

-- the UDP packet in a simple packet block, which is of the first interface
unfoldable pub simple_of : SectionView → List ℕ → Result (Option PacketView) CaptureFaultKind
simple_of section block =
    if nat_lt (length block) 16 then Err fault.Length
    else and_then (interface_at section 0) (simple_in section.order block)

-- a block that does not change the section
abbrev pub same_section : SectionView → Option PacketView → Result Content CaptureFaultKind
same_section section packet = Ok (record { packet = packet; section = section })

-- the section after its header, which has no interface yet
abbrev pub section_begun : SectionView → Option CaptureFaultKind → Result Content CaptureFaultKind
section_begun section None = Ok (record { packet = None; section = record { order = section.order; interfaces = [] } })
section_begun section (Some f) = Err f

-- the section with one more interface, of at most 65
abbrev pub interface_added : SectionView → Interface → Result Content CaptureFaultKind
interface_added section interface =
    if nat_lt (length section.interfaces) 65
    then Ok (record { packet = None; section = record { order = section.order; interfaces = section.interfaces ++ interface ∷ [] } })
    else Err fault.TooMany

unfoldable pub begun_by : SectionView → List ℕ → Result Content CaptureFaultKind
begun_by section block = section_begun section (section_fault section.order block)

unfoldable pub described_by : SectionView → List ℕ → Result Content CaptureFaultKind
described_by section block = and_then (interface_of section.order block) (interface_added section)

-- the kind of a block, by its type; a section header's type is the same in either order
abbrev pub kind_of : ℕ → BlockKind
kind_of number =
    if number == 0x0a0d0d0a then kind.SectionHeader
    else (if number == 1 then kind.Interface
    else (if number == 3 then kind.SimplePacket
    else (if number == 6 then kind.EnhancedPacket else kind.Other)))

-- the content of a whole block of a kind; blocks of other kinds are passed over
unfoldable pub content_as : BlockKind → SectionView → List ℕ → Result Content CaptureFaultKind
content_as kind.SectionHeader section block = begun_by section block
content_as kind.Interface section block = described_by section block
content_as kind.SimplePacket section block = and_then (simple_of section block) (same_section section)
content_as kind.EnhancedPacket section block = and_then (enhanced_of section block) (same_section section)
content_as kind.Other section block = same_section section None

-- the content of a whole block
abbrev pub content_of : SectionView → List ℕ → Result Content CaptureFaultKind
content_of section block = content_as (kind_of (number_at section.order 4 0 block)) section block

-- the content of a whole block with its length and its mark
abbrev pub with_length : ℕ → List ℕ → Content → Result Block CaptureFaultKind
with_length len block content = Ok (record {
  part = record { len = len; packet = content.packet; mark = mark_of content.section.order content.section.interfaces block };
  section = content.section;
})

abbrev pub block_within : SectionView → List ℕ → ℕ → Result Block CaptureFaultKind
block_within section octets len = and_then (content_of section (take len octets)) (with_length len (take len octets))

abbrev pub block_in : List Interface → List ℕ → Endian → Result Block CaptureFaultKind
block_in interfaces octets order =
    and_then (length_of order octets) (block_within (record { order = order; interfaces = interfaces }) octets)

-- the block that octets begin with
unfoldable pub block_of : SectionView → List ℕ → Result Block CaptureFaultKind
block_of section octets =
    if nat_lt (length octets) 12 then Err fault.Truncated
    else and_then (order_of section.order octets) (block_in section.interfaces octets)

-- the view of the value in the code
abbrev pub section_view : Section → SectionView
section_view s = record { order = s.order; interfaces = s.interfaces.items }

-- a call returned this packet, or the first fault
abbrev pub GivesPacket : Result (Option PacketView) CaptureFaultKind → Result (Option Packet) CaptureFaultKind → Type 0
GivesPacket defined result =
    MatchResult result (λ packet. defined ≡ Ok (option_map packet_view packet)) (λ f. defined ≡ Err f)

-- a call read this block and left the section after it, or returned its first fault
abbrev pub GivesContent : Result Content CaptureFaultKind → SectionView → Result (Option Packet) CaptureFaultKind → Type 0
GivesContent defined new result =
    MatchResult result
    (λ packet. defined ≡ Ok (record { packet = option_map packet_view packet; section = new }))
    (λ f. defined ≡ Err f)
