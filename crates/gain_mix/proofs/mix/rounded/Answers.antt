use Rattle.std.proofs.lemmas.Grind.{elements}
use Rattle.std.proofs.Common.{arith}
use Rattle.gain_mix.proofs.mix.rounded.Goals as goal

pub returns-else-shift-eq16 : goal.returns-else-shift-eq16
returns-else-shift-eq16 c = grind (arith, elements)

pub returns-then-shift-eq16 : goal.returns-then-shift-eq16
returns-then-shift-eq16 c = grind (arith, elements)
