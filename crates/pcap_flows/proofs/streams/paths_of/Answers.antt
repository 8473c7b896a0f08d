use Rattle.std.proofs.Common.{rules, ◌∙◌}
use Rattle.pcap_flows.specs.FlowTable.{table_view}
use Rattle.pcap_flows.proofs.StreamLemmas.{paths_more}
use Rattle.pcap_flows.proofs.streams.paths_of.Goals as goal

pub loop-place-preserved : goal.loop-place-preserved
loop-place-preserved c =
    paths_more (table_view c.args.table.now) c.loop-place.paths.items c.push.new.self.items c.args.table.now.keys.items c.loop-place.place c.key_at-key.result
    (search rules) (search rules) (search rules)
    ∙ c.loop-place.invariant
