use Rattle.studio_rings.specs.Turns.{GoesOn, KeepsTokens}
use Rattle.studio_rings.proofs.worker.stream.close_when_taken.Given as goal

abbrev pub invariant-loop : goal.invariant-loop
invariant-loop g l = record {
  later : GoesOn g.C.Clock.told l.initial.stream l.stream;
  tokens : KeepsTokens l.initial.stream.end.sides.items l.stream.end.sides.items;
}
