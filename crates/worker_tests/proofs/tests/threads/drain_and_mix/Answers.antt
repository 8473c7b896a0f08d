use Rattle.studio_rings.specs.Turns.{AreSameRings}
use Rattle.worker_tests.specs.OneStream.{HasSameRings}
use Rattle.worker_tests.proofs.OneStreamLemmas.{feeds_on}
use Rattle.worker_tests.proofs.tests.threads.drain_and_mix.Goals as goal

pub invariant_of-result : goal.invariant_of-result
invariant_of-result g c =
    let closed = c.args.closed in
    let stream = c.join-stream.result.0 in
    let mix = c.join-stream.result.1 in
    let drained : HasSameRings closed.stream stream = c.join-stream.ensures.first in
    let mixed : AreSameRings closed.mix.sides.items mix.sides.items = c.join-stream.ensures.second in
    record { feeds = feeds_on closed.stream stream closed.mix.sides.items mix.sides.items closed.feeds drained.marks mixed }
