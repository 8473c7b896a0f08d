use Rattle.std.proofs.lemmas.Grind.{common_steps}
use Rattle.std.proofs.Common.{arith}
use Rattle.gain_mix.proofs.schedule.is_rising.Goals as goal

pub returns : goal.returns
returns c = grind (arith, common_steps)

pub returns-then-next-last : goal.returns-then-next-last
returns-then-next-last c = grind (arith, common_steps)

pub loop-next-preserved : goal.loop-next-preserved
loop-next-preserved c = grind (arith, common_steps)
