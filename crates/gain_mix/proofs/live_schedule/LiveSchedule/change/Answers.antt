use Rattle.std.proofs.lemmas.Grind.{elements}
use Rattle.std.proofs.Common.{arith}
use Rattle.gain_mix.proofs.live_schedule.LiveSchedule.change.Goals as goal

pub put-requires-clause-len : goal.put-requires-clause-len
put-requires-clause-len c = omega arith

pub returns-clause-later : goal.returns-clause-later
returns-clause-later c = grind (arith, elements)

pub put-requires-clause-in_range : goal.put-requires-clause-in_range
put-requires-clause-in_range c = grind (arith, elements)

pub put-requires-clause-place : goal.put-requires-clause-place
put-requires-clause-place c = omega arith

pub returns-clause-ins : goal.returns-clause-ins
returns-clause-ins c = grind (arith, elements)

pub put-requires-clause-kept : goal.put-requires-clause-kept
put-requires-clause-kept c = grind (arith, elements)

pub fault_of-requires : goal.fault_of-requires
fault_of-requires c = grind (arith, elements)

pub returns-clause-outs : goal.returns-clause-outs
returns-clause-outs c = grind (arith, elements)
