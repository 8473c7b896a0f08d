use Rattle.std.proofs.Common.{arith}
use Rattle.gain_mix.proofs.matrix.Matrix.four_rows.Goals as goal

pub overflow_add-output : goal.overflow_add-output
overflow_add-output c = omega (arith, c.requires, c.row.ensures.few_outs)

pub overflow_add-output-2 : goal.overflow_add-output-2
overflow_add-output-2 c = omega (arith, c.requires, c.row.ensures.few_outs)

pub overflow_add-output-3 : goal.overflow_add-output-3
overflow_add-output-3 c = omega (arith, c.requires, c.row.ensures.few_outs)
