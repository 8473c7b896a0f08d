use Rattle.std.proofs.lemmas.Grind.{elements}
use Rattle.std.proofs.Common.{arith}
use Rattle.studio_ends.proofs.rings.marks.open_sized.Goals as goal

pub returns-clause-side : goal.returns-clause-side
returns-clause-side c = grind (arith, elements)
