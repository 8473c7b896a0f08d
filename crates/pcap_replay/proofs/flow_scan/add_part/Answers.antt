use Rattle.std.proofs.Common.{◌≡◌, ◌++◌, map, option_map, Ok, sym, subst}
use Rattle.pcap_file.specs.Entries.{entries_in}
use Rattle.pcap_file.specs.Packet.{packet_view}
use Rattle.pcap_file.specs.Reader.{packets_among}
use Rattle.pcap_flows.specs.FlowTable.{no_table, table_after, table_view}
use Rattle.pcap_replay.proofs.CaseLemmas.{ok_then}
use Rattle.pcap_replay.proofs.FlowLemmas.{seen_part, seen_same}
use Rattle.pcap_replay.proofs.flow_scan.add_part.Goals as goal

pub returns-in-Some : goal.returns-in-Some
returns-in-Some c =
    let new = table_view c.take.new.self in
    ok_then c.take.result _ _ (λ is entries seen.
    subst (λ o. new ≡ table_after no_table (map Ok (packets_among (entries ++ entries_in (option_map packet_view o) c.args.part.now.mark)))) (sym c.in-Some.is)
    (seen_part (table_view c.args.table.now) new entries (packet_view c.in-Some.packet) c.args.part.now.mark is seen)) c.take.ensures

pub returns-in-None : goal.returns-in-None
returns-in-None c = λ entries seen.
    let table = table_view c.args.table.now in
    subst (λ o. table ≡ table_after no_table (map Ok (packets_among (entries ++ entries_in (option_map packet_view o) c.args.part.now.mark)))) (sym c.in-None.is)
    (seen_same table entries c.args.part.now.mark seen)
