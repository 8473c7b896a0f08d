-- The flows of a capture.
use Rattle.std.specs.Prelude.{ℕ, List, [], ◌∷◌, ◌++◌, length, map, set, slice_index_or, position, Option, Some, None, Ok, Err, nat_lt, if◌then◌else◌}
use Rattle.pcap_file.specs.declared.fault.CaptureFault.{CaptureFault}
use Rattle.pcap_file.specs.Capture.{Item}
use Rattle.pcap_flows.specs.declared.packet.FlowKey.{FlowKey}
use Rattle.pcap_flows.specs.declared.packet.FlowPacket.{FlowPacket}
use Rattle.pcap_flows.specs.declared.capture_times.CaptureTimes.{CaptureTimes}
use Rattle.pcap_flows.specs.declared.table.FlowTable.{FlowTable}
use Rattle.pcap_flows.specs.CaptureTimes.{times_begun, times_with}
use Rattle.pcap_flows.specs.FlowPacket.{flow_packet_of, same_flow}
use Rattle.pcap_flows.specs.ReceivedNumbers.{one_more}
use Rattle.pcap_flows.specs.Flow.{FlowView, flow_first, flow_with, flow_view}

pub record TableView : Type 0 where
  -- the flows' keys, and what was counted of each
  pub keys : List FlowKey
  pub flows : List FlowView
  -- packets of flows that did not fit in the table
  pub untracked : ℕ
  -- packets that are no RTP
  pub not_rtp : ℕ
  pub fault : Option CaptureFault
  -- the steps of the capture's time
  pub times : CaptureTimes

abbrev pub no_table : TableView
no_table = record { keys = []; flows = []; untracked = 0; not_rtp = 0; fault = None; times = times_begun }

-- the table after a flow's first packet
abbrev pub table_begun : TableView → FlowPacket → TableView
table_begun t s = record { keys = t.keys ++ s.key ∷ []; flows = t.flows ++ flow_first s ∷ []; untracked = t.untracked; not_rtp = t.not_rtp; fault = t.fault; times = t.times }

-- the table after a packet of the flow at a place, or of a new flow; there are at most 256 flows
abbrev pub counted_at : TableView → FlowPacket → Option ℕ → TableView
counted_at t s (Some place) = record {
  keys = t.keys;
  flows = set t.flows place (flow_with (slice_index_or t.flows place (flow_first s)) s);
  untracked = t.untracked;
  not_rtp = t.not_rtp;
  fault = t.fault;
  times = t.times;
}
counted_at t s None =
    if nat_lt (length t.keys) 256
    then table_begun t s
    else record { keys = t.keys; flows = t.flows; untracked = one_more t.untracked; not_rtp = t.not_rtp; fault = t.fault; times = t.times }

-- a packet is counted in its flow
unfoldable pub table_counting : TableView → FlowPacket → TableView
table_counting t s = counted_at t s (position (same_flow s.key) t.keys)

abbrev pub table_telling : TableView → Option FlowPacket → TableView
table_telling t None = record { keys = t.keys; flows = t.flows; untracked = t.untracked; not_rtp = one_more t.not_rtp; fault = t.fault; times = t.times }
table_telling t (Some s) = table_counting t s

-- the table with the time of one more UDP packet
abbrev pub table_timed : TableView → Option ℕ → TableView
table_timed t time = record { keys = t.keys; flows = t.flows; untracked = t.untracked; not_rtp = t.not_rtp; fault = t.fault; times = times_with t.times time }

-- the table after one item of a capture
unfoldable pub table_with : TableView → Item → TableView
table_with t (Ok packet) = table_telling (table_timed t packet.time) (flow_packet_of packet)
table_with t (Err fault) = record { keys = t.keys; flows = t.flows; untracked = t.untracked; not_rtp = t.not_rtp; fault = Some fault; times = t.times }

-- the table after these items of a capture, one after the other
unfoldable pub table_after : TableView → List Item → TableView
table_after t [] = t
table_after t (item ∷ items) = table_after (table_with t item) items

-- the view of the value in the code
abbrev pub table_view : FlowTable → TableView
table_view t = record { keys = t.keys.items; flows = map flow_view t.flows.items; untracked = t.untracked; not_rtp = t.not_rtp; fault = t.fault; times = t.times }
