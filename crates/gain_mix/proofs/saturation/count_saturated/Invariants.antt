use Rattle.std.proofs.Common.{pos, ◌+ℤ◌}
use Rattle.gain_mix.specs.Changes.{matrix_at}
use Rattle.gain_mix.specs.Saturated.{AreAdded, saturated_count}
use Rattle.gain_mix.proofs.saturation.count_saturated.Given as goal

abbrev pub invariant-loop-frame : goal.invariant-loop-frame
invariant-loop-frame l = AreAdded l.initial.counts l.counts (λ output. saturated_count (λ f. matrix_at l.schedule (l.t +ℤ pos f)) l.ins l.shift output l.frame)
