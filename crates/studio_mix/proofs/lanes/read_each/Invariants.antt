use Rattle.studio_mix.proofs.BlockLemmas.{IsRead}
use Rattle.studio_mix.proofs.lanes.read_each.Given as goal

-- the lanes so far were read, and their values placed in the frames
abbrev pub invariant-loop-lane : goal.invariant-loop-lane
invariant-loop-lane l = IsRead l.fn.lanes l.lanes l.ins l.frames l.width l.at l.lane-index
