use Rattle.std.proofs.lemmas.Grind.{elements}
use Rattle.std.proofs.Common.{arith}
use Rattle.gain_mix.proofs.matrix.Matrix.new.Goals as goal

pub returns-clause-made : goal.returns-clause-made
returns-clause-made c = grind (arith, elements)

pub returns-clause-refused : goal.returns-clause-refused
returns-clause-refused c = grind (arith, elements)
