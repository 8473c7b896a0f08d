use Rattle.std.proofs.lemmas.Grind.{elements}
use Rattle.std.proofs.Common.{arith}
use Rattle.studio_ends.proofs.ends.open_path.Goals as goal

pub returns-clause-fresh : goal.returns-clause-fresh
returns-clause-fresh c = grind (arith, elements)
