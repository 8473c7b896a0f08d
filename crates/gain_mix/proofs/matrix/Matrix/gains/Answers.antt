use Rattle.gain_mix.proofs.RowLemmas.{seen_rows, seen_length, seen_no_fault}
use Rattle.gain_mix.proofs.matrix.Matrix.gains.Goals as goal

pub returns-clause-by_row : goal.returns-clause-by_row
returns-clause-by_row c = seen_rows _ _ _ _ c.self.view_is c.self.invariant.0 _ c.as_slice.ensures.value

pub returns-clause-len : goal.returns-clause-len
returns-clause-len c = seen_length _ _ _ _ c.self.view_is c.self.invariant.0 _ c.as_slice.ensures.value

pub returns-clause-no_fault : goal.returns-clause-no_fault
returns-clause-no_fault c = seen_no_fault _ _ _ _ c.self.view_is c.self.invariant.0 _ c.as_slice.ensures.value
