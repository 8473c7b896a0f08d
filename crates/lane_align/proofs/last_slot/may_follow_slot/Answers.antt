use Rattle.std.proofs.lemmas.Grind.{common_steps}
use Rattle.std.proofs.Common.{arith}
use Rattle.lane_align.proofs.last_slot.may_follow_slot.Goals as goal

pub returns-then-number-slot : goal.returns-then-number-slot
returns-then-number-slot c = grind (arith, common_steps)

pub returns-then-epoch-slot-2 : goal.returns-then-epoch-slot-2
returns-then-epoch-slot-2 c = grind (arith, common_steps)
