-- UDP datagrams in IPv4 packets (RFC 791, 3.1; RFC 768).
use Rattle.std.specs.Prelude.{◌+◌, ◌*◌, ◌/◌, ◌%◌, ◌^◌, ℕ, Bool, List, [], ◌∷◌, length, slice_index, slice_range, Option, Some, None, nat_lt, nat_le, ◌==◌, not, ◌&&◌, ◌||◌, if◌then◌else◌}
use Rattle.std.specs.Net.Addr.{ipv4_octets}
use Rattle.pcap_file.specs.declared.decode.endian.Endian.TheVariants.{Big}
use Rattle.pcap_file.specs.declared.decode.ipv4.UdpPacket.{UdpPacket}
use Rattle.pcap_file.specs.declared.decode.ipv4.UdpBody.{UdpBody}
use Rattle.pcap_file.specs.declared.decode.ipv4.UdpBody.TheVariants as body
use Rattle.pcap_file.specs.declared.decode.ipv4.UdpDatagram.{UdpDatagram}
use Rattle.pcap_file.specs.Octets.{number_at}

-- a UDP datagram: its ports, and the octets behind its header
pub record UdpView : Type 0 where
  pub source_port : ℕ
  pub destination_port : ℕ
  pub payload : List ℕ

-- the content of an IPv4 packet of UDP
pub data BodyView : Type 0 where
  Whole : UdpView → BodyView
  Part : BodyView
  Truncated : BodyView

-- an IPv4 packet of UDP: the four octets of each address, and what it carries
pub record Ipv4View : Type 0 where
  pub source : List ℕ
  pub destination : List ℕ
  pub body : BodyView

-- the four octets of the address at a place
abbrev pub address_at : ℕ → List ℕ → List ℕ
address_at place octets =
    slice_index octets place ∷ slice_index octets (place + 1) ∷ slice_index octets (place + 2) ∷ slice_index octets (place + 3) ∷ []

-- the lengths in an IPv4 header: its own, in words of four octets, and the packet's
abbrev pub header_length : List ℕ → ℕ
header_length octets = 4 * (slice_index octets 0 % 16)

abbrev pub total_length : List ℕ → ℕ
total_length octets = number_at Big 2 2 octets

-- an IPv4 header of at least 20 octets is first, and its protocol is 17, UDP
abbrev pub has_udp_header : List ℕ → Bool
has_udp_header octets = nat_le 20 (length octets) && (slice_index octets 0 / 16 == 4) && (slice_index octets 9 == 17)

-- the packet is a fragment: more fragments follow, or its offset isn't 0; two bits are before these fourteen
abbrev pub is_fragment : List ℕ → Bool
is_fragment octets = not (number_at Big 2 6 octets % 2 ^ 14 == 0)

-- the octets are a UDP header and what follows it, as many as its length says
unfoldable pub udp_of : List ℕ → Option UdpView
udp_of octets =
    if nat_lt (length octets) 8 then None
    else (if nat_lt (number_at Big 2 4 octets) 8 then None
    else (if nat_lt (length octets) (number_at Big 2 4 octets) then None
    else Some (record {
      source_port = number_at Big 2 0 octets;
      destination_port = number_at Big 2 2 octets;
      payload = slice_range octets 8 (number_at Big 2 4 octets);
    })))

-- the datagram if it is whole, and else a truncated one
abbrev pub whole_or_cut : Option UdpView → BodyView
whole_or_cut None = Truncated
whole_or_cut (Some datagram) = Whole datagram

-- the body of an IPv4 packet: it is truncated if there are fewer octets than its length, or if its lengths are not
-- possible
unfoldable pub body_of : List ℕ → BodyView
body_of octets =
    if is_fragment octets then Part
    else (if nat_lt (header_length octets) 20 || nat_lt (total_length octets) (header_length octets) || nat_lt (length octets) (total_length octets) then Truncated
    else whole_or_cut (udp_of (slice_range octets (header_length octets) (total_length octets))))

-- the UDP packet that octets begin with; what follows its length is a network's padding
unfoldable pub ipv4_of : List ℕ → Option Ipv4View
ipv4_of octets =
    if has_udp_header octets
    then Some (record { source = address_at 12 octets; destination = address_at 16 octets; body = body_of octets })
    else None

-- the views of the values in the code
abbrev pub udp_view : UdpDatagram → UdpView
udp_view d = record { source_port = d.source_port; destination_port = d.destination_port; payload = d.payload.now }

abbrev pub body_view : UdpBody → BodyView
body_view (body.Datagram d) = Whole (udp_view d)
body_view body.Fragment = Part
body_view body.Truncated = Truncated

abbrev pub ipv4_view : UdpPacket → Ipv4View
ipv4_view p = record { source = ipv4_octets p.source; destination = ipv4_octets p.destination; body = body_view p.body }
