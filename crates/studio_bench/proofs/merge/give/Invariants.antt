use Rattle.std.proofs.Common.{◌≡◌}
use Rattle.path_merge.specs.Goal.{CanReach}
use Rattle.studio_bench.proofs.merge.give.Given as goal

-- the reading is in order still
abbrev pub invariant-loop : goal.invariant-loop
invariant-loop l = (l.merge.spec ≡ l.initial.merge.spec) × CanReach l.merge l.goal
