use Rattle.engine_run.proofs.TakeLemmas.{FirstEnded}
use Rattle.engine_run.proofs.feed_reader.have_ended.Given as goal

abbrev pub invariant-loop-place : goal.invariant-loop-place
invariant-loop-place g l = FirstEnded l.readers l.place
