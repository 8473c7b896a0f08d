use Rattle.engine_run.proofs.TakeLemmas.{FirstAllEnded}
use Rattle.engine_run.proofs.feed_reader.have_all_ended.Given as goal

abbrev pub invariant-loop-place : goal.invariant-loop-place
invariant-loop-place g l = FirstAllEnded l.streams l.place
