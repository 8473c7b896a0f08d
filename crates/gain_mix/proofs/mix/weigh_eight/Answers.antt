use Rattle.std.proofs.lemmas.Grind.{elements}
use Rattle.std.proofs.Common.{arith}
use Rattle.gain_mix.proofs.mix.weigh_eight.Goals as goal

pub add_to_four-low_sums-requires-clause-rows : goal.add_to_four-low_sums-requires-clause-rows
add_to_four-low_sums-requires-clause-rows c = omega arith

pub add_to_four-high_sums-requires-clause-rows : goal.add_to_four-high_sums-requires-clause-rows
add_to_four-high_sums-requires-clause-rows c = omega arith

pub returns-clause-high : goal.returns-clause-high
returns-clause-high c = grind (arith, elements)

pub returns-clause-low : goal.returns-clause-low
returns-clause-low c = grind (arith, elements)
