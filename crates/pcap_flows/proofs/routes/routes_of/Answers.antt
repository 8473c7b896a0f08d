use Rattle.std.proofs.Common.{length, rules}
use Rattle.pcap_flows.specs.FlowTable.{table_view}
use Rattle.pcap_flows.proofs.RouteLemmas.{left_out_is}
use Rattle.pcap_flows.proofs.routes.routes_of.Goals as goal

pub returns-clause-left_out : goal.returns-clause-left_out
returns-clause-left_out c =
    left_out_is (table_view c.args.table.now) c.args.names.now c.in_ok-list.list.items (length c.flows.result.now) c.saturating_sub-left_out.result
    (let same = c.args.table.now.same in search rules) (search rules) (search rules)
