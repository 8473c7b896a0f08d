use Rattle.studio_mix.proofs.NewLemmas.{AreNew}
use Rattle.studio_mix.proofs.lanes.new_lanes.Given as goal

-- a new lane for each stream so far
abbrev pub invariant-loop-stream : goal.invariant-loop-stream
invariant-loop-stream l = AreNew l.start l.block l.lag l.streams l.lanes.items l.stream-index
