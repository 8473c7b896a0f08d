use Rattle.std.proofs.Common.{drop, sym, subst, rules}
use Rattle.pcap_flows.specs.FlowTable.{table_view}
use Rattle.pcap_file.specs.ReadBuffer.{octets_of}
use Rattle.pcap_replay.specs.Flows.{HasTable}
use Rattle.pcap_replay.proofs.CaseLemmas.{some_is}
use Rattle.pcap_replay.proofs.FlowLemmas.{seen_all}
use Rattle.pcap_replay.proofs.flow_scan.add_all.Goals as goal

pub returns-then-not-branch : goal.returns-then-not-branch
returns-then-not-branch g c = λ file entries told seen.
    let t = c.parts.invariant file entries told seen in
    seen_all file (table_view c.parts.table) t.entries t.seen (c.in_ok-has_block.ensures.end (search rules) file t.entries t.told)

pub returns-in-None : goal.returns-in-None
returns-in-None g c = λ file entries told seen.
    let t = c.parts.invariant file entries told seen in
    c.in_ok-len.ensures.fault c.in-None.is file t.entries _ (c.in_ok-has_block.ensures.returned file t.entries t.told) t.seen

pub parts-preserved : goal.parts-preserved
parts-preserved g c = λ file entries told seen.
    let t = c.parts.invariant file entries told seen in
    let left = g.R.Read.remaining c.has_block.new.reader in
    let table = table_view c.add_next.new.table in
    let window = c.has_block.new.window in
    let next = some_is c.in_ok-len.field-0 c.in-Some.len _ c.in-Some.is c.in_ok-len.ensures.returned file t.entries left (c.in_ok-has_block.ensures.returned file t.entries t.told) t.seen in
    subst (λ h. HasTable file left table c.add_next.new.parts h c.consume.new.self.ended) (sym c.consume.ensures.octets)
    (subst (λ e. HasTable file left table c.add_next.new.parts (drop c.in-Some.len (octets_of window)) e) (sym c.consume.ensures.ended) next)
