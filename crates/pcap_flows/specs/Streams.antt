-- Flows as paths of streams (SMPTE ST 2022-7), and which of them are shown to be RTP streams.
use Rattle.std.specs.Prelude.{ℕ, ◌+◌, ◌^◌, Bool, false, List, [], ◌∷◌, ◌++◌, length, slice_get, option_and_then, position, min, Option, Some, None, nat_lt, nat_le, ◌==◌, ◌&&◌, ◌||◌, not}
use Rattle.std.specs.List.{list_any}
use Rattle.pcap_flows.specs.declared.packet.FlowKey.{FlowKey}
use Rattle.pcap_flows.specs.declared.streams.FlowPath.{FlowPath}
use Rattle.pcap_flows.specs.declared.flow.Steps.{Steps}
use Rattle.pcap_flows.specs.Flow.{FlowView}
use Rattle.pcap_flows.specs.FlowTable.{TableView}
use Rattle.pcap_flows.specs.SamePackets.{carry_same_packets}

abbrev pub same_flows : Option FlowKey → Option FlowView → Option FlowKey → Option FlowView → Bool
same_flows None flow other_key other = false
same_flows (Some key) None other_key other = false
same_flows (Some key) (Some flow) None other = false
same_flows (Some key) (Some flow) (Some other_key) None = false
same_flows (Some key) (Some flow) (Some other_key) (Some other) = carry_same_packets key flow other_key other

-- the flows at two places of a table carry the same packets
abbrev pub same_at : TableView → ℕ → ℕ → Bool
same_at t place other = same_flows (slice_get t.keys place) (slice_get t.flows place) (slice_get t.keys other) (slice_get t.flows other)

-- the other path is a further path of the same stream
abbrev pub is_further : FlowPath → FlowPath → Bool
is_further path other = (other.first == path.first) && nat_lt path.path other.path

-- there is no further path of the same stream
abbrev pub is_last : List FlowPath → FlowPath → Bool
is_last paths path = not (list_any (is_further path) paths)

-- the flow at a place is the next path behind this one: this is the last path of a stream with fewer than four, and the
-- flow carries the packets of the stream's first flow
abbrev pub is_before : TableView → List FlowPath → ℕ → FlowPath → Bool
is_before t paths place path = nat_lt path.path 3 && is_last paths path && same_at t path.first place

-- the first of these paths, if there is one
abbrev pub path_before : TableView → List FlowPath → ℕ → Option FlowPath
path_before t paths place = option_and_then (slice_get paths) (position (is_before t paths place) paths)

abbrev pub path_behind : FlowKey → ℕ → Option FlowPath → FlowPath
path_behind key place None = record { key = key; place = place; first = place; path = 0 }
path_behind key place (Some path) = record { key = key; place = place; first = path.first; path = min (path.path + 1) 255 }

-- the path of the flow at a place, after the flows before it: the next path of the first stream that has its packets,
-- or else the first path of a new stream
unfoldable pub path_for : TableView → List FlowPath → FlowKey → ℕ → FlowPath
path_for t paths key place = path_behind key place (path_before t paths place)

-- these paths, followed by the paths of the flows with these keys
unfoldable pub paths_with : TableView → List FlowPath → List FlowKey → List FlowPath
paths_with t paths [] = paths
paths_with t paths (key ∷ keys) = paths_with t (paths ++ path_for t paths key (length paths) ∷ []) keys

-- the paths of all flows of a table
abbrev pub paths_of : TableView → List FlowPath
paths_of t = paths_with t [] t.keys

-- timestamps advance from packet to packet, like those of a sampling clock (RFC 3550, 5.1)
abbrev pub goes_on : Option ℕ → Bool
goes_on None = false
goes_on (Some step) = nat_lt 0 step && nat_lt step (2 ^ 31)

-- the number is not a payload type of RTP: RTCP packets look as if they had one of these (RFC 3551, 6)
abbrev pub is_reserved : ℕ → Bool
is_reserved pt = nat_le 72 pt && nat_le pt 76

-- a flow is taken for an RTP stream if it has as many equal steps as eight packets in a row have
unfoldable pub is_shown : FlowKey → FlowView → Bool
is_shown key flow = not (is_reserved key.pt) && nat_le 7 flow.steps.same && goes_on flow.steps.first
