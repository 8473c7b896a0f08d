use Rattle.std.proofs.Common.{◌≡◌}
use Rattle.live_gains.proofs.planned.push_time.Given as goal

abbrev pub invariant-loop : goal.invariant-loop
invariant-loop g l = l.memory.items ≡ l.initial.memory.items
