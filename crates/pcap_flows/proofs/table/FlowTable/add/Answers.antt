use Rattle.std.proofs.Common.{rules}
use Rattle.pcap_flows.proofs.FlowTableLemmas.{counted_in_place}
use Rattle.pcap_flows.proofs.table.FlowTable.add.Goals as goal

pub returns-in-Some : goal.returns-in-Some
returns-in-Some c =
    counted_in_place c.args.self.now.keys.items c.args.self.now.flows.items _ _ _ _ c.args.next.now c.in-Some.place c.index_mut.result.now c.add.new.self
    (search rules) (search rules) (search rules) (search rules)
