-- The trace of a capture: the datagrams of all flows with a route, in order, and the clock readings before them.
use Rattle.std.specs.Prelude.{◌+◌, nat_lt, if◌then◌else◌, List, [], ◌∷◌, ◌++◌, ℕ, Option, Some, None, Ok, Err, Bool, position, slice_get, option_and_then}
use Rattle.pcap_file.specs.UdpPacket.{BodyView, Whole, Part, Truncated}
use Rattle.pcap_file.specs.Packet.{PacketView}
use Rattle.pcap_file.specs.Capture.{Item}
use Rattle.pcap_flows.specs.declared.packet.FlowKey.{FlowKey}
use Rattle.pcap_flows.specs.declared.packet.FlowPacket.{FlowPacket}
use Rattle.pcap_flows.specs.FlowPacket.{flow_packet_of, same_flow}
use Rattle.pcap_flows.specs.declared.routes.Route.{Route}
use Rattle.pcap_flows.specs.declared.import.clock.CaptureClock.{CaptureClock}
use Rattle.pcap_flows.specs.Clock.{clock_begun, clock_with}
use Rattle.pcap_flows.specs.TraceLines.{tick_text, arrival_line, close_line}

-- the route is for this flow
abbrev pub is_route_of : FlowKey → Route → Bool
is_route_of key route = same_flow key route.key

abbrev pub route_for : List Route → Option FlowPacket → Option Route
route_for routes None = None
route_for routes (Some s) = option_and_then (slice_get routes) (position (is_route_of s.key) routes)

-- the route of a packet, if it is an RTP packet of a flow that has one
unfoldable pub route_of : List Route → PacketView → Option Route
route_of routes packet = route_for routes (flow_packet_of packet)

-- the octets of a whole datagram
abbrev pub octets_of : BodyView → List ℕ
octets_of (Whole udp) = udp.payload
octets_of Part = []
octets_of Truncated = []

-- a datagram's line, after the line of the clock if the clock has moved on
abbrev pub packet_text : CaptureClock → PacketView → Option Route → List ℕ
packet_text clock packet None = []
packet_text clock packet (Some route) =
    tick_text clock.reading (clock_with clock packet.time).reading ++ arrival_line route (octets_of packet.ip.body)

-- the clock after a packet; packets without a route do not move it
abbrev pub packet_clock : CaptureClock → PacketView → Option Route → CaptureClock
packet_clock clock packet None = clock
packet_clock clock packet (Some route) = clock_with clock packet.time

unfoldable pub item_text : List Route → CaptureClock → Item → List ℕ
item_text routes clock (Ok packet) = packet_text clock packet (route_of routes packet)
item_text routes clock (Err fault) = []

unfoldable pub item_clock : List Route → CaptureClock → Item → CaptureClock
item_clock routes clock (Ok packet) = packet_clock clock packet (route_of routes packet)
item_clock routes clock (Err fault) = clock

-- the lines of the remaining items of a capture, and the close
unfoldable pub text_from : List Route → CaptureClock → List Item → List ℕ
text_from routes clock [] = close_line
text_from routes clock (item ∷ items) = item_text routes clock item ++ text_from routes (item_clock routes clock item) items

-- the whole trace
abbrev pub trace_of : List Route → List Item → List ℕ
trace_of routes items = text_from routes clock_begun items

-- the number of a packet's events: its own, and before it a later clock reading, if there is one
abbrev pub packet_events : CaptureClock → PacketView → Option Route → ℕ
packet_events clock packet None = 0
packet_events clock packet (Some route) = if nat_lt clock.reading (clock_with clock packet.time).reading then 2 else 1

unfoldable pub item_events : List Route → CaptureClock → Item → ℕ
item_events routes clock (Ok packet) = packet_events clock packet (route_of routes packet)
item_events routes clock (Err fault) = 0

-- the number of events in the lines of the remaining items, with the close
unfoldable pub events_from : List Route → CaptureClock → List Item → ℕ
events_from routes clock [] = 1
events_from routes clock (item ∷ items) = item_events routes clock item + events_from routes (item_clock routes clock item) items

-- the number of events of the whole trace
abbrev pub event_count : List Route → List Item → ℕ
event_count routes items = events_from routes clock_begun items
