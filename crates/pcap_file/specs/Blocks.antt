-- Blocks of the pcapng format as they are written, numbers least significant octet first (draft-ietf-opsawg-pcapng,
-- Block Definitions).
use Rattle.std.specs.Prelude.{ℕ, ◌+◌, ◌-◌, ◌*◌, ◌/◌, ◌%◌, ◌^◌, List, [], ◌∷◌, ◌++◌, length, replicate, codes, decimal}
use Rattle.byteorder.specs.Endian.{little_bytes}
use Rattle.pcap_file.specs.Mark.{opening_text}
use Rattle.pcap_file.specs.RecordedDatagram.{ArrivalView}
use Rattle.pcap_file.specs.RecordedChange.{ChangeView, change_octets}
use Rattle.pcap_file.specs.IpHeader.{header_octets, udp_octets}

-- octets, and zeros up to whole words of four
unfoldable pub padded : List ℕ → List ℕ
padded octets = octets ++ replicate (3 * length octets % 4) 0

-- a block of a type: its length is before its body and again behind it
unfoldable pub block_octets : ℕ → List ℕ → List ℕ
block_octets kind held = little_bytes 4 kind ++ little_bytes 4 (12 + length held) ++ held ++ little_bytes 4 (12 + length held)

-- an option: its code, its length and its value
unfoldable pub option_octets : ℕ → List ℕ → List ℕ
option_octets code value = little_bytes 2 code ++ little_bytes 2 (length value) ++ padded value

-- the option that ends the others
abbrev pub options_end : List ℕ
options_end = little_bytes 4 0

-- the body of a section header: the magic number of its order, version 1.0, no section length, its comment, and the
-- name of its writer
unfoldable pub section_body : ℕ → List ℕ
section_body open_at =
    little_bytes 4 0x1a2b3c4d ++ little_bytes 2 1 ++ little_bytes 2 0 ++ little_bytes 8 (2 ^ 64 - 1)
    ++ option_octets 1 (opening_text open_at) ++ option_octets 4 (codes "darbexum") ++ options_end

unfoldable pub section_block : ℕ → List ℕ
section_block open_at = block_octets 0x0a0d0d0a (section_body open_at)

-- an interface's name: its stream's number, a space and its path's letter
abbrev pub interface_text : ℕ → ℕ → List ℕ
interface_text stream letter = decimal stream ++ 32 ∷ letter ∷ []

-- the body of the description of an interface of IP packets: no limit, its name, that its times are in nanoseconds, and
-- a description
unfoldable pub texts_body : List ℕ → List ℕ → List ℕ
texts_body name description =
    little_bytes 2 101 ++ little_bytes 2 0 ++ little_bytes 4 0
    ++ option_octets 2 name ++ option_octets 9 (9 ∷ []) ++ option_octets 3 description ++ options_end

unfoldable pub texts_block : List ℕ → List ℕ → List ℕ
texts_block name description = block_octets 1 (texts_body name description)

-- the interface of a path, whose description has its stream's configuration
unfoldable pub interface_block : ℕ → ℕ → List ℕ → List ℕ
interface_block stream letter description = texts_block (interface_text stream letter) description

-- the interface of a run's changes of gains
unfoldable pub gains_interface_block : List ℕ
gains_interface_block = texts_block (codes "gains") (codes "gains")

-- a time as two words, the high one first
abbrev pub time_octets : ℕ → List ℕ
time_octets nanoseconds = little_bytes 4 (nanoseconds / 2 ^ 32) ++ little_bytes 4 (nanoseconds % 2 ^ 32)

-- the octets before a datagram in its block: its interface, its time, its packet's length as captured and as sent, and
-- its headers
unfoldable pub datagram_head : ArrivalView → List ℕ
datagram_head a =
    little_bytes 4 a.interface ++ time_octets a.nanoseconds ++ little_bytes 4 (28 + length a.octets) ++ little_bytes 4 (28 + length a.octets)
    ++ header_octets a ++ udp_octets a

-- an enhanced packet block
unfoldable pub datagram_block : ArrivalView → List ℕ
datagram_block a = block_octets 6 (datagram_head a ++ padded a.octets)

-- a change of gains as the payload of a datagram from and to nowhere: all addresses and ports are 0
abbrev pub change_arrival : ℕ → ℕ → ChangeView → ArrivalView
change_arrival interface nanoseconds change = record {
  interface = interface;
  nanoseconds = nanoseconds;
  source = 0 ∷ 0 ∷ 0 ∷ 0 ∷ [];
  source_port = 0;
  destination = 0 ∷ 0 ∷ 0 ∷ 0 ∷ [];
  destination_port = 0;
  octets = change_octets change;
}

unfoldable pub change_block : ℕ → ℕ → ChangeView → List ℕ
change_block interface nanoseconds change = datagram_block (change_arrival interface nanoseconds change)

-- the body of an interface statistics block of the first interface: its time, and nothing else
unfoldable pub closing_body : ℕ → List ℕ
closing_body nanoseconds = little_bytes 4 0 ++ time_octets nanoseconds

unfoldable pub closing_block : ℕ → List ℕ
closing_block nanoseconds = block_octets 5 (closing_body nanoseconds)
