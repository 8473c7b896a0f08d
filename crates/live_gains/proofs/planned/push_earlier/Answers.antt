use Rattle.std.proofs.lemmas.Grind.{common_steps}
use Rattle.std.proofs.Common.{arith}
use Rattle.live_gains.proofs.planned.push_earlier.Goals as goal

pub loop-time-preserved : goal.loop-time-preserved
loop-time-preserved c = grind (arith, common_steps)

pub returns : goal.returns
returns c = grind (arith, common_steps)
