use Rattle.std.proofs.Common.{◌≡◌, ◌++◌, drop}
use Rattle.live_gains.specs.Planned.{earlier}
use Rattle.live_gains.proofs.planned.push_earlier.Given as goal

abbrev pub invariant-loop-time : goal.invariant-loop-time
invariant-loop-time g l = l.memory.items ++ earlier l.at (drop l.time-index l.times) ≡ l.initial.memory.items ++ earlier l.at l.times
