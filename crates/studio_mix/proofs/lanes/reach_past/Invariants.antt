use Rattle.std.proofs.Common.{◌≡◌, ℕ, ◌<◌, false, Some, slice_get}
use Rattle.lane_align.specs.Lane.{LaneState}
use Rattle.studio_mix.specs.Lanes.{reaches_past}
use Rattle.studio_mix.proofs.lanes.reach_past.Given as goal

-- no lane so far reaches past the time
abbrev pub invariant-loop-lane : goal.invariant-loop-lane
invariant-loop-lane l = (k : ℕ) (lane : LaneState) → k < l.lane-index → slice_get l.lanes k ≡ Some lane → reaches_past l.time lane ≡ false
