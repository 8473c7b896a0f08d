use Rattle.std.proofs.lemmas.Grind.{elements}
use Rattle.std.proofs.Common.{arith}
use Rattle.gain_mix.proofs.saturation.mix_counted.Goals as goal

pub returns-clause-ins : goal.returns-clause-ins
returns-clause-ins c = omega arith

pub returns-clause-outs : goal.returns-clause-outs
returns-clause-outs c = omega arith

pub returns-clause-mixed : goal.returns-clause-mixed
returns-clause-mixed c = grind (arith, elements)

pub returns-clause-counted : goal.returns-clause-counted
returns-clause-counted c = grind (arith, elements)
