use Rattle.std.proofs.Common.{◌≡◌, ℕ, ◌<◌, List, ℤ, take, drop, false, Some, slice_get}
use Rattle.gain_mix.specs.Gain.{has_gain}
use Rattle.gain_mix.proofs.matrix.Matrix.uses.Given as goal

-- no output so far has a gain of the inputs
abbrev pub invariant-loop-output : goal.invariant-loop-output
invariant-loop-output l = (k : ℕ) (row : List ℤ) → k < l.output → slice_get l.self k ≡ Some row → has_gain (take l.count (drop l.at row)) ≡ false
