use Rattle.std.proofs.Common.{[], ap, rules}
use Rattle.pcap_replay.specs.Record.{opening_in}
use Rattle.pcap_replay.proofs.CaseLemmas.{some_is}
use Rattle.pcap_replay.proofs.record_times.find_opening.Goals as goal

pub returns-then-not-branch : goal.returns-then-not-branch
returns-then-not-branch g c = λ file told.
    let whole = c.in_ok-has_block.ensures.end (search rules) file [] (c.parts.invariant file told) in
    ap opening_in whole.all

pub returns-in-Some : goal.returns-in-Some
returns-in-Some g c = λ file told.
    some_is c.opening_at_next.result c.in-Some.opening _ c.in-Some.is c.opening_at_next.ensures.decided file _ (c.in_ok-has_block.ensures.returned file [] (c.parts.invariant file told))

pub parts-preserved : goal.parts-preserved
parts-preserved g c = λ file told.
    c.opening_at_next.ensures.passed c.in_default.is file _ (c.in_ok-has_block.ensures.returned file [] (c.parts.invariant file told))
