use Rattle.std.proofs.Common.{◌≡◌, take}
use Rattle.studio_run.proofs.gains.line.narrowed.Given as goal

-- the gains so far were added
abbrev pub invariant-loop-gain : goal.invariant-loop-gain
invariant-loop-gain l = l.narrow.items ≡ take l.gain-index l.gains
