use Rattle.std.proofs.lemmas.Grind.{elements}
use Rattle.std.proofs.Common.{arith}
use Rattle.gain_mix.proofs.live_schedule.write_slot.Goals as goal

pub set-requires-clause-in_range : goal.set-requires-clause-in_range
set-requires-clause-in_range c = omega arith

pub set-requires-clause-len : goal.set-requires-clause-len
set-requires-clause-len c = grind (arith, elements)
