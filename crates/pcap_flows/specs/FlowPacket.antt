-- The RTP packets of a capture.
use Rattle.std.specs.Prelude.{Bool, length, Option, Some, None, ◌==◌, ◌&&◌}
use Rattle.std.specs.Int.{w32, from_be_bytes}
use Rattle.rtp_wire.specs.declared.fault.WireFault.{WireFault}
use Rattle.rtp_wire.specs.Datagram.{wire_fault_of, head_at, payload_at}
use Rattle.pcap_file.specs.UdpPacket.{Ipv4View, BodyView, Whole, Part, Truncated, UdpView}
use Rattle.pcap_file.specs.Packet.{PacketView}
use Rattle.pcap_flows.specs.declared.packet.FlowKey.{FlowKey}
use Rattle.pcap_flows.specs.declared.packet.FlowPacket.{FlowPacket}

-- the flow of a datagram: its addresses and ports, its source and its payload type
abbrev pub key_of : Ipv4View → UdpView → FlowKey
key_of ip udp = record {
  from = from_be_bytes w32 ip.source;
  from_port = udp.source_port;
  to = from_be_bytes w32 ip.destination;
  to_port = udp.destination_port;
  ssrc = (head_at udp.payload).ssrc;
  pt = (head_at udp.payload).pt;
}

-- the RTP packet in a datagram that has no fault
abbrev pub rtp_in : PacketView → UdpView → Option WireFault → Option FlowPacket
rtp_in packet udp (Some fault) = None
rtp_in packet udp None = Some (record {
  key = key_of packet.ip udp;
  seq = (head_at udp.payload).seq;
  ts = (head_at udp.payload).ts;
  len = length (payload_at udp.payload);
  time = packet.time;
})

-- a whole datagram that is an RTP packet
abbrev pub rtp_of : PacketView → BodyView → Option FlowPacket
rtp_of packet Part = None
rtp_of packet Truncated = None
rtp_of packet (Whole udp) = rtp_in packet udp (wire_fault_of udp.payload)

unfoldable pub flow_packet_of : PacketView → Option FlowPacket
flow_packet_of packet = rtp_of packet packet.ip.body

-- two packets are of one flow
abbrev pub same_flow : FlowKey → FlowKey → Bool
same_flow a b =
    (a.from == b.from) && (a.from_port == b.from_port) && (a.to == b.to) && (a.to_port == b.to_port)
    && (a.ssrc == b.ssrc) && (a.pt == b.pt)
