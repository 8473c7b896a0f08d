-- Worked cases of streams that are counted, of flows without a route, and of why there are no routes, computed.
use Rattle.std.specs.Prelude.{◌≡◌, ℕ, List, [], ◌∷◌, Some, None, map, refl}
use Rattle.std.specs.declared.net.socket_addr.SocketAddrV4.{SocketAddrV4}
use Rattle.pcap_flows.specs.declared.packet.FlowKey.{FlowKey}
use Rattle.pcap_flows.specs.declared.streams.FlowPath.{FlowPath}
use Rattle.pcap_flows.specs.CaptureTimes.{times_begun}
use Rattle.pcap_flows.specs.FlowTable.{TableView}
use Rattle.pcap_flows.specs.Streams.{path_for, paths_with}
use Rattle.pcap_flows.specs.Routes.{left_out_of, paths_fault_of, routes_fault_of, stream_count}
use Rattle.pcap_flows.specs.declared.fault.ImportFault.TheVariants.{UnknownAddress, NoFlow, Streams}

abbrev flow : ℕ → FlowKey
flow port = record { from = 1; from_port = 5004; to = 2; to_port = port; ssrc = 7; pt = 96 }

abbrev path : ℕ → ℕ → ℕ → FlowPath
path place first number = record { key = flow place; place = place; first = first; path = number }

-- the flows 0 and 2 are two paths of one stream, and the flow 1 is the path of another
two_streams : stream_count (path 0 0 0 ∷ path 1 1 0 ∷ path 2 0 1 ∷ []) ≡ 2
two_streams = refl

-- if only its second path is chosen, a stream is counted too
second_path : stream_count (path 1 1 0 ∷ path 2 0 1 ∷ []) ≡ 2
second_path = refl

-- two flows of which nothing is known have no format, so both are left out
none_chosen : left_out_of (record { keys = flow 5004 ∷ flow 5006 ∷ []; flows = []; untracked = 0; not_rtp = 0; fault = None; times = times_begun }) [] ≡ 2
unfolding paths_with path_for
none_chosen = refl

-- no flow goes to any address if there are no flows
no_flow_is_named : (name : SocketAddrV4) → routes_fault_of (record { keys = []; flows = []; untracked = 0; not_rtp = 0; fault = None; times = times_begun }) (name ∷ []) ≡ Some UnknownAddress
no_flow_is_named name = refl

-- without an address, flows that have no format have no route
no_flow_has_a_route : routes_fault_of (record { keys = flow 5004 ∷ flow 5006 ∷ []; flows = []; untracked = 0; not_rtp = 0; fault = None; times = times_begun }) [] ≡ Some NoFlow
unfolding paths_with path_for
no_flow_has_a_route = refl

abbrev streams_at : List ℕ → List FlowPath
streams_at places = map (λ place. path place place 0) places

-- 16 streams have routes, and 17 do not
sixteen_streams : paths_fault_of (streams_at (0 ∷ 1 ∷ 2 ∷ 3 ∷ 4 ∷ 5 ∷ 6 ∷ 7 ∷ 8 ∷ 9 ∷ 10 ∷ 11 ∷ 12 ∷ 13 ∷ 14 ∷ 15 ∷ [])) ≡ None
sixteen_streams = refl

seventeen_streams : paths_fault_of (streams_at (0 ∷ 1 ∷ 2 ∷ 3 ∷ 4 ∷ 5 ∷ 6 ∷ 7 ∷ 8 ∷ 9 ∷ 10 ∷ 11 ∷ 12 ∷ 13 ∷ 14 ∷ 15 ∷ 16 ∷ [])) ≡ Some Streams
seventeen_streams = refl
