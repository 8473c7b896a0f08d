use Rattle.std.proofs.Common.{◌≡◌, vec_len}
use Rattle.studio_ends.proofs.LookLemmas.{LooksUpTo}
use Rattle.studio_ends.proofs.rings.drained.any_stream_open.Given as goal

abbrev pub invariant-loop-place : goal.invariant-loop-place
invariant-loop-place l = LooksUpTo l.initial.sides.items l.sides.items l.initial.open_yet l.open_yet l.any l.place × (vec_len l.sides ≡ vec_len l.initial.sides)
