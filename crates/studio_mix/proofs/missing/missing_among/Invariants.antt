use Rattle.studio_mix.proofs.MissingLemmas.{AreCounted}
use Rattle.studio_mix.proofs.missing.missing_among.Given as goal

-- what is missing among the lanes so far is counted
abbrev pub invariant-loop-lane : goal.invariant-loop-lane
invariant-loop-lane l = AreCounted l.schedule l.time l.lanes l.streams l.is_heard l.at l.lane-index
