use Rattle.std.proofs.lemmas.Grind.{elements}
use Rattle.std.proofs.Common.{arith}
use Rattle.lane_align.proofs.lane.Lane.new.Goals as goal

pub with_capacity-requires-clause-not_high : goal.with_capacity-requires-clause-not_high
with_capacity-requires-clause-not_high c = grind (arith, elements)
