use Rattle.std.proofs.lemmas.Grind.{common_steps, elements}
use Rattle.std.proofs.Common.{arith}
use Rattle.lane_align.proofs.last_slot.frames_left.Goals as goal

pub returns-in-Some : goal.returns-in-Some
returns-in-Some c = grind (arith, common_steps)

pub overflow_add-slot : goal.overflow_add-slot
overflow_add-slot c = grind (arith, elements)
