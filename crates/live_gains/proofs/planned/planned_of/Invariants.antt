use Rattle.std.proofs.Common.{◌≡◌, ◌++◌, drop}
use Rattle.live_gains.specs.Planned.{times_of}
use Rattle.live_gains.proofs.planned.planned_of.Given as goal

abbrev pub invariant-loop-change : goal.invariant-loop-change
invariant-loop-change l = l.planned.items ++ times_of (drop l.change-index l.later) ≡ times_of l.later
