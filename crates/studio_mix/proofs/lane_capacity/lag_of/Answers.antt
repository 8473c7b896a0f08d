use Rattle.std.proofs.lemmas.Grind.{elements}
use Rattle.std.proofs.Common.{arith}
use Rattle.studio_mix.proofs.lane_capacity.lag_of.Goals as goal

pub overflow_add-result : goal.overflow_add-result
overflow_add-result c = grind (arith, elements)

pub returns-clause-short : goal.returns-clause-short
returns-clause-short c = grind (arith, elements)
