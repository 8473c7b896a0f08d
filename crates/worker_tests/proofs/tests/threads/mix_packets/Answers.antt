use Rattle.studio_rings.proofs.StreamTurnLemmas.{rings-self, rings-trans}
use Rattle.worker_tests.proofs.tests.threads.mix_packets.Goals as goal

pub loop-number-init : goal.loop-number-init
loop-number-init g c = rings-self c.args.mix.sides.items

pub loop-number-preserved : goal.loop-number-preserved
loop-number-preserved g c = rings-trans c.args.mix.sides.items c.loop-number.mix.sides.items c.mix_next.new.mix.sides.items c.loop-number.invariant c.mix_next.ensures
