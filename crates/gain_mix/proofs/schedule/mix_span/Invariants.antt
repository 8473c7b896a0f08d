use Rattle.std.proofs.Common.{pos, ◌+ℤ◌}
use Rattle.gain_mix.specs.Changes.{matrix_at}
use Rattle.gain_mix.specs.Mix.{IsMixed}
use Rattle.gain_mix.proofs.schedule.mix_span.Given as goal

abbrev pub invariant-loop-frame : goal.invariant-loop-frame
invariant-loop-frame l = IsMixed (λ f. matrix_at l.schedule (l.t +ℤ pos f)) l.ins l.outs l.frame l.shift
