use Rattle.std.proofs.lemmas.Grind.{elements}
use Rattle.std.proofs.Common.{arith}
use Rattle.studio_engine.proofs.engine.Engine.next_deadline.Goals as goal

pub returns-clause-before : goal.returns-clause-before
returns-clause-before c = grind (arith, elements)

pub returns-clause-never : goal.returns-clause-never
returns-clause-never c = grind (arith, elements)
