use Rattle.std.proofs.lemmas.Grind.{elements}
use Rattle.std.proofs.Common.{arith}
use Rattle.lane_align.proofs.last_slot.frames_between.Goals as goal

pub returns-then-from-to : goal.returns-then-from-to
returns-then-from-to c = grind (arith, elements)
