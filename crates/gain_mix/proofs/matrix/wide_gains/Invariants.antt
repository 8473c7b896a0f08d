use Rattle.std.proofs.Common.{◌≡◌, take}
use Rattle.gain_mix.proofs.matrix.wide_gains.Given as goal

-- the gains so far were copied
abbrev pub invariant-loop-gain : goal.invariant-loop-gain
invariant-loop-gain l = l.wide.items ≡ take l.gain-index l.gains
