use Rattle.std.proofs.Common.{◌≡◌, ◌+◌, drop, length}
use Rattle.gain_mix.specs.Changes.{before}
use Rattle.gain_mix.proofs.live_schedule.count_before.Given as goal

abbrev pub invariant-loop-change : goal.invariant-loop-change
invariant-loop-change l = l.kept + length (before l.at (drop l.change-index l.later)) ≡ length (before l.at l.later)
