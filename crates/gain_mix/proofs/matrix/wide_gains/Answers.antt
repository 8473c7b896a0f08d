use Rattle.std.proofs.Common.{◌∙◌, arith}
use Rattle.std.proofs.lemmas.Grind.{common_steps}
use Rattle.std.proofs.lemmas.List.{take_all}
use Rattle.gain_mix.proofs.matrix.wide_gains.Goals as goal

pub loop-gain-preserved : goal.loop-gain-preserved
loop-gain-preserved c = grind (arith, common_steps)

pub returns : goal.returns
returns c = c.loop-gain.invariant ∙ take_all c.loop-gain.gain-index c.args.gains.now c.loop-gain-test.false
