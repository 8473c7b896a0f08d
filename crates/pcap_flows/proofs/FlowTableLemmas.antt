-- A table with one more packet.
use Rattle.std.proofs.Common.{ℕ, ◌≡◌, ◌<◌, List, [], ◌∷◌, length, map, set, slice_index_or, position, Option, Some, Err, refl, sym, ap, ◌∙◌}
use Rattle.std.proofs.lemmas.List.{map-set, get_or-map}
use Rattle.pcap_file.specs.declared.fault.CaptureFault.{CaptureFault}
use Rattle.pcap_file.specs.Capture.{Item}
use Rattle.pcap_flows.specs.declared.packet.FlowKey.{FlowKey}
use Rattle.pcap_flows.specs.declared.packet.FlowPacket.{FlowPacket}
use Rattle.pcap_flows.specs.declared.flow.Flow.{Flow}
use Rattle.pcap_flows.specs.declared.capture_times.CaptureTimes.{CaptureTimes}
use Rattle.pcap_flows.specs.FlowPacket.{same_flow}
use Rattle.pcap_flows.specs.Flow.{FlowView, flow_view, flow_with, flow_first}
use Rattle.pcap_flows.specs.FlowTable.{TableView, table_counting, counted_at, table_after, table_with}

pub table_after_none : (t : TableView) → table_after t [] ≡ t
unfolding table_after
table_after_none t = refl

pub table_after_next : (t : TableView) (item : Item) (items : List Item) → table_after t (item ∷ items) ≡ table_after (table_with t item) items
unfolding table_after
table_after_next t item items = refl

pub table_after_fault : (t : TableView) (fault : CaptureFault) → table_after t (Err fault ∷ []) ≡ record { keys = t.keys; flows = t.flows; untracked = t.untracked; not_rtp = t.not_rtp; fault = Some fault; times = t.times }
unfolding table_after table_with
table_after_fault t fault = refl

pub counting_known : (t : TableView) (s : FlowPacket) (place : ℕ) → position (same_flow s.key) t.keys ≡ Some place → table_counting t s ≡ counted_at t s (Some place)
unfolding table_counting
counting_known t s place e = ap (counted_at t s) e

-- a flow of a list is counted in its place
pub flows_set : (flows : List Flow) (s : FlowPacket) (place : ℕ) (old flow : Flow) → place < length flows → old ≡ slice_index_or flows place old → flow_view flow ≡ flow_with (flow_view old) s → map flow_view (set flows place flow) ≡ set (map flow_view flows) place (flow_with (slice_index_or (map flow_view flows) place (flow_first s)) s)
flows_set flows s place old flow lt is counted =
    map-set flow_view flows place flow
    ∙ ap (set (map flow_view flows) place) (counted ∙ ap (λ f. flow_with f s) (ap flow_view is ∙ sym (get_or-map flow_view flows place old (flow_first s) lt)))

abbrev pub table : List FlowKey → ℕ → ℕ → Option CaptureFault → CaptureTimes → List FlowView → TableView
table keys untracked not_rtp fault times flows = record { keys = keys; flows = flows; untracked = untracked; not_rtp = not_rtp; fault = fault; times = times }

pub counted_in_place : (keys : List FlowKey) (flows : List Flow) (untracked not_rtp : ℕ) (fault : Option CaptureFault) (times : CaptureTimes) (s : FlowPacket) (place : ℕ) (old flow : Flow) → position (same_flow s.key) keys ≡ Some place → place < length flows → old ≡ slice_index_or flows place old → flow_view flow ≡ flow_with (flow_view old) s → table keys untracked not_rtp fault times (map flow_view (set flows place flow)) ≡ table_counting (table keys untracked not_rtp fault times (map flow_view flows)) s
counted_in_place keys flows untracked not_rtp fault times s place old flow at lt is counted =
    ap (table keys untracked not_rtp fault times) (flows_set flows s place old flow lt is counted)
    ∙ sym (counting_known (table keys untracked not_rtp fault times (map flow_view flows)) s place at)
