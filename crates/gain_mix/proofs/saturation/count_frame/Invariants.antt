use Rattle.std.proofs.Common.{ℕ, get_or, Fits, w64}
use Rattle.gain_mix.specs.Saturated.{saturated_at}
use Rattle.gain_mix.proofs.SaturatedLemmas.{AreAddedTo}
use Rattle.gain_mix.proofs.saturation.count_frame.Given as goal

abbrev pub invariant-loop-output : goal.invariant-loop-output
invariant-loop-output l = AreAddedTo l.initial.counts l.counts (saturated_at l.matrix l.ins l.shift) l.output × ((k : ℕ) → Fits w64 (get_or l.initial.counts k 0))
