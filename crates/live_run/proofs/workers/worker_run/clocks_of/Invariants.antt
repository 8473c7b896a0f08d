use Rattle.std.proofs.Common.{◌≡◌, length}
use Rattle.live_run.proofs.workers.worker_run.clocks_of.Given as goal

abbrev pub invariant-loop : goal.invariant-loop
invariant-loop g l = length l.clocks.items ≡ l.counter
