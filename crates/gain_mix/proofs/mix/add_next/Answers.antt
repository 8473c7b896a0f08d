use Rattle.std.proofs.lemmas.Grind.{elements}
use Rattle.std.proofs.Common.{rules, arith}
use Rattle.gain_mix.proofs.SumLemmas.{IsSumTo-next}
use Rattle.gain_mix.proofs.mix.add_next.Goals as goal

pub returns : goal.returns
returns c =
    let r = c.requires in
    IsSumTo-next c.args.gains.now c.args.values.now c.args.input c.args.sum c.add_input.result r.row r.few r.in_24_bits r.within (search rules) c.add_input.ensures r.so_far

pub add_input-requires-clause-in_range : goal.add_input-requires-clause-in_range
add_input-requires-clause-in_range c = grind (arith, elements)
