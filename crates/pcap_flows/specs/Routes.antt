-- The routes of a capture's flows: which path of which stream of a trace each of them is.
use Rattle.std.specs.Prelude.{◌≡◌, ◌⊎◌, ℕ, ◌+◌, Bool, false, List, [], ◌∷◌, length, map, filter, min, nat_lt, slice_get, Option, Some, None, ◌==◌, ◌&&◌, not, if◌then◌else◌}
use Rattle.std.specs.List.{list_all, list_any}
use Rattle.std.specs.Net.Addr.{ipv4_bits}
use Rattle.std.specs.Net.Socket.{v4_ip, v4_port}
use Rattle.std.specs.declared.net.socket_addr.SocketAddrV4.{SocketAddrV4}
use Rattle.pcap_flows.specs.declared.packet.FlowKey.{FlowKey}
use Rattle.pcap_flows.specs.Flow.{FlowView}
use Rattle.pcap_flows.specs.FlowTable.{TableView}
use Rattle.pcap_flows.specs.PacketFormat.{has_format}
use Rattle.pcap_flows.specs.Streams.{paths_of}
use Rattle.pcap_flows.specs.declared.streams.FlowPath.{FlowPath}
use Rattle.pcap_flows.specs.declared.routes.Route.{Route}
use Rattle.pcap_flows.specs.declared.fault.ImportFault.{ImportFault}
use Rattle.pcap_flows.specs.declared.fault.ImportFault.TheVariants.{UnknownAddress, NoFlow, Streams, Memory}

-- the flow goes to this address and port
abbrev pub is_named : FlowKey → SocketAddrV4 → Bool
is_named key name = (ipv4_bits (v4_ip name) == key.to) && (v4_port name == key.to_port)

-- some flow goes to this address and port
abbrev pub has_flow : List FlowKey → SocketAddrV4 → Bool
has_flow keys name = list_any (λ key. is_named key name) keys

-- a flow goes to each of these addresses
abbrev pub are_named : TableView → List SocketAddrV4 → Bool
are_named t names = list_all (has_flow t.keys) names

abbrev pub flow_has_format : Option FlowKey → Option FlowView → Bool
flow_has_format None flow = false
flow_has_format (Some key) None = false
flow_has_format (Some key) (Some flow) = has_format key.pt flow

-- the flow at a place has a format
abbrev pub has_format_at : TableView → ℕ → Bool
has_format_at t place = flow_has_format (slice_get t.keys place) (slice_get t.flows place)

-- a flow of the stream that begins at a place has a format
abbrev pub stream_has_format : TableView → List FlowPath → ℕ → Bool
stream_has_format t paths first = list_any (λ path. (path.first == first) && has_format_at t path.place) paths

-- the path goes to one of these addresses, or, if there are none, its stream has a format
abbrev pub is_chosen : TableView → List SocketAddrV4 → List FlowPath → FlowPath → Bool
is_chosen t [] paths path = stream_has_format t paths path.first
is_chosen t (name ∷ names) paths path = list_any (is_named path.key) (name ∷ names)

-- the chosen paths, out of the paths of all flows
abbrev pub chosen_paths : TableView → List SocketAddrV4 → List FlowPath
chosen_paths t names = filter (is_chosen t names (paths_of t)) (paths_of t)

-- the other path is of the same stream, and its flow is before this path's flow
abbrev pub is_earlier : FlowPath → FlowPath → Bool
is_earlier path other = (other.first == path.first) && nat_lt other.place path.place

-- the path is the first of its stream among the chosen paths
abbrev pub leads : List FlowPath → FlowPath → Bool
leads chosen path = not (list_any (is_earlier path) chosen)

-- the number of chosen streams
abbrev pub stream_count : List FlowPath → ℕ
stream_count chosen = length (filter (leads chosen) chosen)

-- the number of chosen streams that begin before a place
abbrev pub streams_before : List FlowPath → ℕ → ℕ
streams_before chosen first = length (filter (λ path. nat_lt path.first first && leads chosen path) chosen)

-- the number of chosen paths of the same stream before this path
abbrev pub paths_before : List FlowPath → FlowPath → ℕ
paths_before chosen path = length (filter (is_earlier path) chosen)

-- the letter of a path, from `a`, which is 97, to `d`
abbrev pub letter_of : ℕ → ℕ
letter_of number = 97 + min number 3

-- the route of a chosen path: streams are numbered in the order of their first flows, and paths in the order of their
-- flows
abbrev pub route_of_path : List FlowPath → FlowPath → Route
route_of_path chosen path = record {
  key = path.key;
  stream = streams_before chosen path.first;
  letter = letter_of (paths_before chosen path);
}

-- the routes of all chosen paths
abbrev pub routes_of_paths : List FlowPath → List Route
routes_of_paths chosen = map (route_of_path chosen) chosen

-- the routes of a capture's flows to these addresses, or of all streams with a format if there are none
abbrev pub routes_of : TableView → List SocketAddrV4 → List Route
routes_of t names = routes_of_paths (chosen_paths t names)

-- the number of flows that are no chosen path
abbrev pub left_out_of : TableView → List SocketAddrV4 → ℕ
left_out_of t names = length (filter (λ path. not (is_chosen t names (paths_of t) path)) (paths_of t))

-- why chosen paths have no routes: they are of more than 16 streams, or there are none
abbrev pub paths_fault_of : List FlowPath → Option ImportFault
paths_fault_of chosen = if nat_lt 16 (stream_count chosen) then Some Streams else if length chosen == 0 then Some NoFlow else None

-- why there are no routes to these addresses: no flow goes to one of them, or the paths to them have no routes
abbrev pub routes_fault_of : TableView → List SocketAddrV4 → Option ImportFault
routes_fault_of t names = if are_named t names then paths_fault_of (chosen_paths t names) else Some UnknownAddress

-- an allocation failed, or this is why there are no routes
abbrev pub IsRoutesFault : TableView → List SocketAddrV4 → ImportFault → Type 0
IsRoutesFault t names fault = (fault ≡ Memory) ⊎ (routes_fault_of t names ≡ Some fault)
