use Rattle.studio_engine.proofs.CursorsLemmas.{AreCaught}
use Rattle.studio_engine.proofs.dispatch.catch_up.Given as goal

-- the streams so far caught up
abbrev pub invariant-loop-number : goal.invariant-loop-number
invariant-loop-number l = AreCaught l.count l.fn.cursors l.cursors l.number
