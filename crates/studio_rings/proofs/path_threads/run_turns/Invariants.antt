use Rattle.studio_rings.specs.Turns.{GoesOn}
use Rattle.studio_rings.proofs.path_threads.run_turns.Given as goal

abbrev pub invariant-loop : goal.invariant-loop
invariant-loop g l = GoesOn g.C.Clock.told l.initial.stream l.stream
