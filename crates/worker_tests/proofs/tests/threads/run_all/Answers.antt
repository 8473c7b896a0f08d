use Rattle.rtrb.specs.Ring.{SameProducer}
use Rattle.studio_rings.specs.Turns.{AreSameRings}
use Rattle.worker_tests.specs.OneStream.{HasSameRings}
use Rattle.worker_tests.proofs.OneStreamLemmas.{all_on}
use Rattle.worker_tests.proofs.tests.threads.run_all.Goals as goal

pub invariant_of-result : goal.invariant_of-result
invariant_of-result g c =
    let ends = c.args.ends in
    let sent = c.join-first.result.0 in
    let played = c.join-first.result.1 in
    let first : SameProducer ends.first.ring sent.0.ring = c.join-first.ensures.first.0 in
    let second : SameProducer ends.second.ring sent.1.ring = c.join-first.ensures.first.1 in
    let merged : HasSameRings ends.stream played.0 = c.join-first.ensures.second.0 in
    let mixed : AreSameRings ends.mix.sides.items played.1.sides.items = c.join-first.ensures.second.1 in
    record { pairs = all_on ends.first sent.0 ends.second sent.1 ends.stream played.0 ends.mix played.1 ends.pairs first second merged mixed }
