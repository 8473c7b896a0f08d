use Rattle.std.proofs.lemmas.Grind.{elements}
use Rattle.std.proofs.Common.{arith}
use Rattle.gain_mix.proofs.RowLemmas.{seen_in_each_row}
use Rattle.gain_mix.proofs.matrix.Matrix.ins.Goals as goal

pub returns-clause-in_each_row : goal.returns-clause-in_each_row
returns-clause-in_each_row c = seen_in_each_row _ _ _ _ c.self.view_is c.self.invariant.0

pub returns-clause-gains : goal.returns-clause-gains
returns-clause-gains c = grind (arith, elements)
