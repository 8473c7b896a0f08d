use Rattle.studio_rings.proofs.StreamTurnLemmas.{rings-self, rings-trans}
use Rattle.worker_tests.proofs.OneStreamLemmas.{some_same}
use Rattle.worker_tests.proofs.tests.threads.mix_next.Goals as goal

pub loop-init : goal.loop-init
loop-init g c = rings-self c.args.mix.now.sides.items

pub loop-preserved : goal.loop-preserved
loop-preserved g c = rings-trans c.args.mix.now.sides.items c.loop.mix.sides.items c.mixed-note.new.mix.sides.items c.loop.invariant
    (some_same c.loop.mix.sides.items c.mixed-note.new.mix.sides.items c.mixed-note.ensures)

pub returns-then-is_some : goal.returns-then-is_some
returns-then-is_some g c = rings-trans c.args.mix.now.sides.items c.loop.mix.sides.items c.mixed-note.new.mix.sides.items c.loop.invariant
    (some_same c.loop.mix.sides.items c.mixed-note.new.mix.sides.items c.mixed-note.ensures)
