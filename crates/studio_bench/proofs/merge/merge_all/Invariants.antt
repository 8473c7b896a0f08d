use Rattle.std.proofs.Common.{◌≡◌}
use Rattle.studio_bench.proofs.merge.merge_all.Given as goal

abbrev pub invariant-loop-turn : goal.invariant-loop-turn
invariant-loop-turn l = l.merge.spec ≡ l.initial.merge.spec
