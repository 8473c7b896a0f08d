use Rattle.studio_rings.specs.Turns.{AreSameRings}
use Rattle.worker_tests.proofs.tests.threads.mix_next.Given as goal

abbrev pub invariant-loop : goal.invariant-loop
invariant-loop g l = AreSameRings l.initial.mix.sides.items l.mix.sides.items
