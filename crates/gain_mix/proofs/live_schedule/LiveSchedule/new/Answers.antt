use Rattle.std.proofs.lemmas.Grind.{elements}
use Rattle.std.proofs.Common.{arith}
use Rattle.gain_mix.proofs.live_schedule.LiveSchedule.new.Goals as goal

pub returns-clause-outs : goal.returns-clause-outs
returns-clause-outs c = grind (arith, elements)
