use Rattle.std.proofs.Common.{length}
use Rattle.live_gains.proofs.planned.+behind.Given as goal

abbrev pub decreases-behind : goal.decreases-behind
decreases-behind l = length l.times.now
