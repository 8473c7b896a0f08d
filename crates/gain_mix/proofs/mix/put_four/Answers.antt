use Rattle.std.proofs.lemmas.Grind.{elements}
use Rattle.std.proofs.Common.{arith}
use Rattle.gain_mix.proofs.mix.put_four.Goals as goal

pub bounds-outs-output-2 : goal.bounds-outs-output-2
bounds-outs-output-2 c = grind (arith, elements)

pub sample_of-requires-3-clause-bounded : goal.sample_of-requires-3-clause-bounded
sample_of-requires-3-clause-bounded c = grind (arith, elements)

pub bounds-outs-output-3 : goal.bounds-outs-output-3
bounds-outs-output-3 c = grind (arith, elements)

pub bounds-outs-output-4 : goal.bounds-outs-output-4
bounds-outs-output-4 c = grind (arith, elements)

pub sample_of-requires-4-clause-bounded : goal.sample_of-requires-4-clause-bounded
sample_of-requires-4-clause-bounded c = grind (arith, elements)
