use Rattle.std.proofs.Common.{◌≡◌, take}
use Rattle.gain_mix.proofs.matrix.widen.Given as goal

abbrev pub invariant-loop-place : goal.invariant-loop-place
invariant-loop-place l = take l.place l.wide ≡ take l.place l.gains
