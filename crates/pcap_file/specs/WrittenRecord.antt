-- A record, block by block, and its entries.
use Rattle.std.specs.Prelude.{◌≡◌, ◌<◌, ◌≤◌, ◌^◌, ℕ, List, [], ◌∷◌, ◌++◌, length, map, Some, Ok}
use Rattle.pcap_file.specs.Packet.{PacketView}
use Rattle.pcap_file.specs.UdpPacket.{Whole}
use Rattle.pcap_file.specs.Capture.{Item}
use Rattle.pcap_file.specs.Entries.{Entry, Packet}
use Rattle.pcap_file.specs.RecordedDatagram.{ArrivalView}
use Rattle.pcap_file.specs.Blocks.{section_block, interface_block, gains_interface_block, datagram_block, closing_block}

-- a path's stream and letter, and the description of its stream's configuration
pub record PathView : Type 0 where
  pub stream : ℕ
  pub letter : ℕ
  pub description : List ℕ

-- the stream's number fits 16 bits, and the description 64 octets
abbrev pub IsPath : PathView → Type 0
IsPath path = (path.stream < 2 ^ 16) × (length path.description ≤ 64)

-- the interfaces of paths, one behind the other
abbrev pub interface_blocks : List PathView → List ℕ
interface_blocks [] = []
interface_blocks (path ∷ paths) = interface_block path.stream path.letter path.description ++ interface_blocks paths

-- the blocks of datagrams that arrived
abbrev pub datagram_blocks : List ArrivalView → List ℕ
datagram_blocks [] = []
datagram_blocks (arrival ∷ arrivals) = datagram_block arrival ++ datagram_blocks arrivals

-- a record that isn't closed, and a record that is
abbrev pub open_record : ℕ → List PathView → List ArrivalView → List ℕ
open_record open_at paths arrivals = section_block open_at ++ interface_blocks paths ++ datagram_blocks arrivals

abbrev pub closed_record : ℕ → List PathView → List ArrivalView → ℕ → List ℕ
closed_record open_at paths arrivals closed = open_record open_at paths arrivals ++ closing_block closed

-- the record of a run whose gains can change: the interface of the changes is behind those of the paths
abbrev pub open_gains_record : ℕ → List PathView → List ArrivalView → List ℕ
open_gains_record open_at paths arrivals = section_block open_at ++ interface_blocks paths ++ gains_interface_block ++ datagram_blocks arrivals

abbrev pub closed_gains_record : ℕ → List PathView → List ArrivalView → ℕ → List ℕ
closed_gains_record open_at paths arrivals closed = open_gains_record open_at paths arrivals ++ closing_block closed

-- a datagram that can be written: on a described interface, of two addresses, with numbers that fit their octets, and
-- not longer than the longest change
pub record IsArrival (count : ℕ) (a : ArrivalView) : Type 0 where
  pub interface : a.interface < count
  pub nanoseconds : a.nanoseconds < 2 ^ 64
  pub source : length a.source ≡ 4
  pub source_port : a.source_port < 2 ^ 16
  pub destination : length a.destination ≡ 4
  pub destination_port : a.destination_port < 2 ^ 16
  pub octets : length a.octets ≤ 32784

-- the packet that a written datagram is read back as
abbrev pub packet_of : ArrivalView → PacketView
packet_of a = record {
  time = Some a.nanoseconds;
  interface = a.interface;
  ip = record {
    source = a.source;
    destination = a.destination;
    body = Whole (record { source_port = a.source_port; destination_port = a.destination_port; payload = a.octets });
  };
}

abbrev pub items_of : List ArrivalView → List Item
items_of arrivals = map (λ a. Ok (packet_of a)) arrivals

-- the entries that written datagrams are read back as
abbrev pub packet_entries : List ArrivalView → List Entry
packet_entries arrivals = map (λ a. Packet (packet_of a)) arrivals
