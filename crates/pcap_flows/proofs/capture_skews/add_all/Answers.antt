use Rattle.std.proofs.Common.{map, drop, sym, subst, rules}
use Rattle.pcap_file.specs.ReadBuffer.{octets_of}
use Rattle.pcap_flows.specs.PairTimes.{pair_view}
use Rattle.pcap_flows.specs.CaptureSkews.{HasPairs}
use Rattle.pcap_flows.proofs.CaptureSkewLemmas.{seen_all, some_is}
use Rattle.pcap_flows.proofs.capture_skews.add_all.Goals as goal

pub returns-then-not-branch : goal.returns-then-not-branch
returns-then-not-branch g c = λ file begun entries told seen.
    let t = c.parts.invariant file begun entries told seen in
    seen_all file begun (map pair_view c.parts.times.items) t.entries t.seen (c.in_ok-has_block.ensures.end (search rules) file t.entries t.told)

-- a next record or block is there
pub add_next-requires : goal.add_next-requires
add_next-requires g c = c.in_ok-has_block.ensures.next (search rules)

pub returns-in-None : goal.returns-in-None
returns-in-None g c = λ file begun entries told seen.
    let t = c.parts.invariant file begun entries told seen in
    c.in_ok-len.ensures.fault c.in-None.is file begun t.entries _ (c.in_ok-has_block.ensures.returned file t.entries t.told) t.seen

pub parts-preserved : goal.parts-preserved
parts-preserved g c = λ file begun entries told seen.
    let t = c.parts.invariant file begun entries told seen in
    let left = g.R.Read.remaining c.has_block.new.reader in
    let pairs = map pair_view c.add_next.new.times.items in
    let window = c.has_block.new.window in
    let next = some_is c.in_ok-len.field-0 c.in-Some.len _ c.in-Some.is c.in_ok-len.ensures.returned file begun t.entries left (c.in_ok-has_block.ensures.returned file t.entries t.told) t.seen in
    subst (λ h. HasPairs file left begun pairs c.add_next.new.parts h c.consume.new.self.ended) (sym c.consume.ensures.octets)
    (subst (λ e. HasPairs file left begun pairs c.add_next.new.parts (drop c.in-Some.len (octets_of window)) e) (sym c.consume.ensures.ended) next)
