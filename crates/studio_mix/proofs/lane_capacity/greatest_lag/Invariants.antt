use Rattle.std.proofs.Common.{◌≡◌, ◌≤◌, ◌^◌, take}
use Rattle.studio_mix.specs.LaneCapacity.{greatest_lag}
use Rattle.studio_mix.proofs.lane_capacity.greatest_lag.Given as goal

-- the greatest lag of the streams so far
abbrev pub invariant-loop-stream : goal.invariant-loop-stream
invariant-loop-stream l = (l.greatest ≡ greatest_lag (take l.stream-index l.streams)) × (l.greatest ≤ 2 ^ 23)
