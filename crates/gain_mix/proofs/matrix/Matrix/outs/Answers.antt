use Rattle.std.proofs.Common.{sym}
use Rattle.gain_mix.proofs.RowLemmas.{seen_outs}
use Rattle.gain_mix.proofs.matrix.Matrix.outs.Goals as goal

pub returns-clause-rows : goal.returns-clause-rows
returns-clause-rows c = sym (seen_outs _ _ _ _ c.self.view_is c.self.invariant.0)
