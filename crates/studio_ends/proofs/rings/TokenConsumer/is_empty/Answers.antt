use Rattle.std.proofs.lemmas.Grind.{elements, common_steps}
use Rattle.std.proofs.Common.{arith}
use Rattle.studio_ends.proofs.rings.TokenConsumer.is_empty.Goals as goal

pub returns-clause-some : goal.returns-clause-some
returns-clause-some c = grind (arith, elements)

pub returns-clause-none : goal.returns-clause-none
returns-clause-none c = grind (arith, common_steps)
