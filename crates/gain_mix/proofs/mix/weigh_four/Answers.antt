use Rattle.std.proofs.lemmas.Grind.{elements}
use Rattle.std.proofs.Common.{arith}
use Rattle.gain_mix.proofs.mix.weigh_four.Goals as goal

pub returns : goal.returns
returns c = grind (arith, elements)
