-- One captured packet.
use Rattle.std.specs.Prelude.{ℕ, List, Option, option_map, option_and_then}
use Rattle.pcap_file.specs.declared.decode.link.LinkType.{LinkType}
use Rattle.pcap_file.specs.declared.decode.Packet.{Packet}
use Rattle.pcap_file.specs.LinkType.{ip_octets}
use Rattle.pcap_file.specs.UdpPacket.{Ipv4View, ipv4_of, ipv4_view}

-- an IPv4 packet of UDP as it was captured: its time, if it has one, its interface's number, and its content
pub record PacketView : Type 0 where
  pub time : Option ℕ
  pub interface : ℕ
  pub ip : Ipv4View

-- the UDP packet in a frame of a link, if there is one
unfoldable pub packet_in : LinkType → Option ℕ → ℕ → List ℕ → Option PacketView
packet_in link time interface frame =
    option_map (λ ip. record { time = time; interface = interface; ip = ip })
    (option_and_then ipv4_of (ip_octets link frame))

-- the view of the value in the code
abbrev pub packet_view : Packet → PacketView
packet_view p = record { time = p.time; interface = p.interface; ip = ipv4_view p.ip }
