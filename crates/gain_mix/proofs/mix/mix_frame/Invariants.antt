use Rattle.std.proofs.Common.{◌-◌, ◌≤◌}
use Rattle.gain_mix.specs.Mix.{HasMixed}
use Rattle.gain_mix.proofs.mix.mix_frame.Given as goal

abbrev pub invariant-loop-output : goal.invariant-loop-output
invariant-loop-output l = HasMixed l.matrix l.ins l.shift l.output l.outs × (l.output ≤ l.count)

abbrev pub decreases-loop-output : goal.decreases-loop-output
decreases-loop-output l = l.count - l.output

abbrev pub invariant-loop-output-2 : goal.invariant-loop-output-2
invariant-loop-output-2 l = HasMixed l.matrix l.ins l.shift l.output l.outs × (l.output ≤ l.count)

abbrev pub decreases-loop-output-2 : goal.decreases-loop-output-2
decreases-loop-output-2 l = l.count - l.output

abbrev pub invariant-loop-output-3 : goal.invariant-loop-output-3
invariant-loop-output-3 l = HasMixed l.matrix l.ins l.shift l.output l.outs × (l.output ≤ l.count)

abbrev pub decreases-loop-output-3 : goal.decreases-loop-output-3
decreases-loop-output-3 l = l.count - l.output
