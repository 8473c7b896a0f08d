-- A datagram that arrived.
use Rattle.std.specs.Prelude.{ℕ, List}
use Rattle.std.specs.Net.Addr.{ipv4_octets}
use Rattle.pcap_file.specs.declared.encode.datagram.RecordedDatagram.{RecordedDatagram}

-- the interface that it arrived on, its time in nanoseconds, the four octets of each address, the ports, and its octets
pub record ArrivalView : Type 0 where
  pub interface : ℕ
  pub nanoseconds : ℕ
  pub source : List ℕ
  pub source_port : ℕ
  pub destination : List ℕ
  pub destination_port : ℕ
  pub octets : List ℕ

-- the view of the value in the code
abbrev pub arrival_view : RecordedDatagram → ArrivalView
arrival_view a = record {
  interface = a.interface;
  nanoseconds = a.nanoseconds;
  source = ipv4_octets a.source;
  source_port = a.source_port;
  destination = ipv4_octets a.destination;
  destination_port = a.destination_port;
  octets = a.octets.now;
}
