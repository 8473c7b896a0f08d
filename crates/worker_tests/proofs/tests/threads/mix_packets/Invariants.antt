use Rattle.studio_rings.specs.Turns.{AreSameRings}
use Rattle.worker_tests.proofs.tests.threads.mix_packets.Given as goal

abbrev pub invariant-loop-number : goal.invariant-loop-number
invariant-loop-number g l = AreSameRings l.initial.mix.sides.items l.mix.sides.items
