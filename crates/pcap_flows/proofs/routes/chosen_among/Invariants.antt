use Rattle.std.proofs.Common.{◌≡◌, filter, take}
use Rattle.pcap_flows.specs.FlowTable.{table_view}
use Rattle.pcap_flows.specs.Routes.{is_chosen}
use Rattle.pcap_flows.proofs.routes.chosen_among.Given as goal

-- the paths so far that are taken
abbrev pub invariant-loop-place : goal.invariant-loop-place
invariant-loop-place l = l.chosen.items ≡ filter (is_chosen (table_view l.table) l.names l.paths) (take l.place l.paths)
