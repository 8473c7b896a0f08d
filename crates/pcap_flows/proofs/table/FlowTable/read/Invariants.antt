use Rattle.std.proofs.Common.{◌≡◌}
use Rattle.pcap_file.specs.Capture.{packets_left}
use Rattle.pcap_flows.specs.FlowTable.{table_after, table_view}
use Rattle.pcap_flows.proofs.table.FlowTable.read.Given as goal

abbrev pub invariant-loop-item : goal.invariant-loop-item
invariant-loop-item l =
    table_after (table_view l.self) (packets_left l.capture) ≡ table_after (table_view l.fn.self) (packets_left l.fn.capture)
