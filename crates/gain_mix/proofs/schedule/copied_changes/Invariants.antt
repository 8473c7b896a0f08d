use Rattle.std.proofs.Common.{◌≡◌, take}
use Rattle.gain_mix.proofs.schedule.copied_changes.Given as goal

-- the changes so far were copied
abbrev pub invariant-loop-change : goal.invariant-loop-change
invariant-loop-change l = l.copy.items ≡ take l.change-index l.changes
