use Rattle.std.proofs.lemmas.Grind.{elements}
use Rattle.std.proofs.Common.{arith}
use Rattle.lane_align.proofs.lane.Lane.position.Goals as goal

pub returns-clause-stands : goal.returns-clause-stands
returns-clause-stands c = grind (arith, elements)
