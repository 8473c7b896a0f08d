use Rattle.std.proofs.lemmas.Grind.{common_steps, elements}
use Rattle.std.proofs.Common.{arith}
use Rattle.lane_align.proofs.lane.Lane.has_space.Goals as goal

pub returns-in-Slot : goal.returns-in-Slot
returns-in-Slot c = grind (arith, common_steps)

pub overflow_add-end : goal.overflow_add-end
overflow_add-end c = grind (arith, elements)
