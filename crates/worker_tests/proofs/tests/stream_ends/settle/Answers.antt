use Rattle.std.proofs.Common.{◌≡◌, ◌∙◌, arith, length}
use Rattle.studio_rings.proofs.StreamTurnLemmas.{rings-looked, rings-trans}
use Rattle.worker_tests.proofs.OneStreamLemmas.{marks_count, marks_paired, some_same, token_of}
use Rattle.worker_tests.proofs.tests.stream_ends.settle.Goals as goal

pub stream_done-requires-clause-stream : goal.stream_done-requires-clause-stream
stream_done-requires-clause-stream g c =
    let closed = c.args.closed in
    let took = some_same closed.mix.sides.items c.gives_none.new.mix.sides.items c.gives_none.ensures in
    let looked = rings-looked c.gives_none.new.mix.sides.items c.settled.new.self.sides.items c.settled.ensures.rings in
    let same = rings-trans closed.mix.sides.items c.gives_none.new.mix.sides.items c.settled.new.self.sides.items took looked in
    let one : length c.settled.new.self.sides.items ≡ 1 = marks_count closed.mix.sides.items c.settled.new.self.sides.items same ∙ closed.feeds.one in
    omega (arith, one)

pub stream_done-requires-clause-token : goal.stream_done-requires-clause-token
stream_done-requires-clause-token g c = λ side at.
    let closed = c.args.closed in
    let took = some_same closed.mix.sides.items c.gives_none.new.mix.sides.items c.gives_none.ensures in
    let looked = rings-looked c.gives_none.new.mix.sides.items c.settled.new.self.sides.items c.settled.ensures.rings in
    let same = rings-trans closed.mix.sides.items c.gives_none.new.mix.sides.items c.settled.new.self.sides.items took looked in
    let pair = marks_paired closed.stream closed.mix.sides.items c.settled.new.self.sides.items 0 same closed.feeds.marks side at in
    token_of closed.stream.marks c.finish_stream-done.result.0.token side.ring pair c.finish_stream-done.ensures
