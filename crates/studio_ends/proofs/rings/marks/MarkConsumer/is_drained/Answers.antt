use Rattle.std.proofs.lemmas.Grind.{elements}
use Rattle.std.proofs.Common.{arith}
use Rattle.studio_ends.proofs.rings.marks.MarkConsumer.is_drained.Goals as goal

pub returns-clause-drained : goal.returns-clause-drained
returns-clause-drained c = grind (arith, elements)
