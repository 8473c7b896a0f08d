-- A packet whose payload is borrowed.
use Rattle.rtp_stream.specs.declared.packet.Packet.{Packet}
use Rattle.rtp_stream.specs.declared.packet.PacketRef.{PacketRef}

-- the packet with a copy of the borrowed octets
abbrev pub packet_of : PacketRef → Packet
packet_of p = record { seq = p.seq; ts = p.ts; ssrc = p.ssrc; payload = record { items = p.payload.now } }
