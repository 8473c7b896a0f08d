use Rattle.gain_mix.specs.Mix.{IsMixed}
use Rattle.gain_mix.proofs.mix.mix_block.Given as goal

abbrev pub invariant-loop-frame : goal.invariant-loop-frame
invariant-loop-frame l = IsMixed (λ _. l.matrix) l.ins l.outs l.frame l.shift
