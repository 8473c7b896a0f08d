use Rattle.std.proofs.Common.{◌≡◌, vec_len}
use Rattle.studio_ends.proofs.TakeLemmas.{TakesUpTo}
use Rattle.studio_ends.proofs.stream_end.packets_in.take_all.Given as goal

abbrev pub invariant-loop-number : goal.invariant-loop-number
invariant-loop-number l = TakesUpTo l.initial.sides.items l.sides.items l.from l.initial.merge l.merge l.initial.sender l.sender l.number × (l.merge.spec ≡ l.spec) × (vec_len l.sides ≡ vec_len l.initial.sides)
