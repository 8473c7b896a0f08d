use Rattle.std.proofs.lemmas.Grind.{elements}
use Rattle.std.proofs.Common.{rules, ◌+◌, arith}
use Rattle.gain_mix.proofs.SumLemmas.{IsSumTo-stored}
use Rattle.gain_mix.proofs.mix.weighted_sum.Goals as goal

pub loop-input-preserved : goal.loop-input-preserved
loop-input-preserved c = IsSumTo-stored c.args.gains.now c.args.values.now (c.loop-input.input + 1) c.add_next-sum.result (search rules) c.add_next-sum.ensures

pub returns : goal.returns
returns c = grind (arith, elements)
