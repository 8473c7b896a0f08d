use Rattle.std.proofs.lemmas.Grind.{elements, common_steps}
use Rattle.std.proofs.Common.{arith}
use Rattle.studio_run.proofs.gains.line.narrowed.Goals as goal

pub returns : goal.returns
returns c = grind (arith, elements)

pub overflow_cast-gain : goal.overflow_cast-gain
overflow_cast-gain c = grind (arith, common_steps)
