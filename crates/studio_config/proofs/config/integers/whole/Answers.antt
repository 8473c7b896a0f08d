use Rattle.std.proofs.lemmas.Grind.{elements}
use Rattle.std.proofs.Common.{arith}
use Rattle.studio_config.proofs.config.integers.whole.Goals as goal

pub returns-clause-fault : goal.returns-clause-fault
returns-clause-fault c = grind (arith, elements)

pub returns-clause-number : goal.returns-clause-number
returns-clause-number c = grind (arith, elements)

pub returns-clause-ok : goal.returns-clause-ok
returns-clause-ok c = grind (arith, elements)

pub returns-clause-high : goal.returns-clause-high
returns-clause-high c = grind (arith, elements)

pub returns-clause-low : goal.returns-clause-low
returns-clause-low c = grind (arith, elements)
