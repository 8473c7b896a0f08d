use Rattle.std.proofs.Common.{◌≡◌, drop, length, [], List}
use Rattle.pcap_flows.specs.FlowTable.{table_view}
use Rattle.pcap_flows.specs.Streams.{paths_with}
use Rattle.pcap_flows.proofs.streams.paths_of.Given as goal

-- the paths of the flows so far, with those of the flows that are left, are those of all
abbrev pub invariant-loop-place : goal.invariant-loop-place
invariant-loop-place l =
    paths_with (table_view l.table) l.paths.items (drop l.place l.table.keys.items) ≡ paths_with (table_view l.table) [] l.table.keys.items
