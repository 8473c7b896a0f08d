use Rattle.std.proofs.lemmas.Grind.{elements, common_steps}
use Rattle.std.proofs.Common.{arith}
use Rattle.studio_ends.proofs.rings.TokenConsumer.is_drained.Goals as goal

pub returns-in-Some-clause-done : goal.returns-in-Some-clause-done
returns-in-Some-clause-done c = grind (arith, elements)

pub returns-in-None-clause-drained : goal.returns-in-None-clause-drained
returns-in-None-clause-drained c = grind (arith, elements)

pub returns-in-Some-clause-drained : goal.returns-in-Some-clause-drained
returns-in-Some-clause-drained c = grind (arith, common_steps)
