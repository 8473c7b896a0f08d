use Rattle.std.proofs.Common.{◌≡◌, drop}
use Rattle.gain_mix.specs.Changes.{last_change}
use Rattle.gain_mix.proofs.schedule.last_of.Given as goal

abbrev pub invariant-loop-change : goal.invariant-loop-change
invariant-loop-change l =
    last_change l.matrix (drop l.change-index l.later) l.t ≡ last_change l.first l.later l.t
