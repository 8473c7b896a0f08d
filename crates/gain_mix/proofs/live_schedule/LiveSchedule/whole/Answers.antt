use Rattle.std.proofs.lemmas.Grind.{elements}
use Rattle.std.proofs.Common.{arith}
use Rattle.gain_mix.proofs.live_schedule.LiveSchedule.whole.Goals as goal

pub invariant_of-result : goal.invariant_of-result
invariant_of-result c = grind (arith, elements)
