use Rattle.std.proofs.lemmas.Grind.{elements}
use Rattle.std.proofs.Common.{arith}
use Rattle.gain_mix.proofs.live_schedule.pass_first.Goals as goal

pub returns : goal.returns
returns c = grind (arith, elements)
