use Rattle.std.proofs.Common.{arith}
use Rattle.std.proofs.lemmas.Grind.{common_steps, elements}
use Rattle.rtp_wire.proofs.samples.sample.Goals as goal

pub returns-in-L24 : goal.returns-in-L24
returns-in-L24 c = grind (arith, common_steps)

pub returns-in-L16 : goal.returns-in-L16
returns-in-L16 c = grind (arith, elements)
