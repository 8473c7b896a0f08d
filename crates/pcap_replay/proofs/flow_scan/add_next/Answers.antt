use Rattle.pcap_flows.specs.FlowTable.{table_view}
use Rattle.pcap_replay.proofs.FlowLemmas.{seen_fault}
use Rattle.pcap_replay.proofs.flow_scan.add_next.Goals as goal

pub returns-in_ok-take-in-Err-clause-fault : goal.returns-in_ok-take-in-Err-clause-fault
returns-in_ok-take-in-Err-clause-fault c = λ _ file entries left told seen.
    seen_fault file (table_view c.args.table.now) (table_view c.take.new.self) entries c.in-Err.fault c.in_ok-take-in-Err.ensures seen (c.in-Err.ensures.fault file entries left told)
