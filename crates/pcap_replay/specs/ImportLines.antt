-- The lines that an import writes, and that a trace can have.
use Rattle.std.specs.Prelude.{◌≡◌, ◌≤◌, ◌<◌, ◌^◌, List, [], ◌∷◌, length, Some, IfSome}
use Rattle.hex.specs.Hex.{IsBytes}
use Rattle.pcap_file.specs.Packet.{PacketView}
use Rattle.pcap_flows.specs.declared.routes.Route.{Route}
use Rattle.pcap_flows.specs.Trace.{octets_of, route_of}

-- a route names one of the paths a to d, which are 97 to 100, of one of 16 streams
pub record IsPathRoute (route : Route) : Type 0 where
  pub low : 97 ≤ route.letter
  pub high : route.letter ≤ 100
  pub stream : route.stream ≤ 15

-- a packet has a datagram of 1 to 2,000 octets; if it has a time, 64 bits hold it
pub record IsLineOf (packet : PacketView) : Type 0 where
  pub some : 0 < length (octets_of packet.ip.body)
  pub few : length (octets_of packet.ip.body) ≤ 2000
  pub bytes : IsBytes (octets_of packet.ip.body)
  pub time : IfSome packet.time (λ t. t < 2 ^ 64)

-- each packet that has a route can be a line of a trace
abbrev pub AreLines : List Route → List PacketView → Type 0
AreLines routes [] = Unit {0}
AreLines routes (packet ∷ packets) = ((route : Route) → route_of routes packet ≡ Some route → IsPathRoute route × IsLineOf packet) × AreLines routes packets
