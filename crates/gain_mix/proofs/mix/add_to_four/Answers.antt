use Rattle.std.proofs.lemmas.Grind.{elements}
use Rattle.std.proofs.Common.{rules, ◌+◌, arith}
use Rattle.gain_mix.proofs.SumLemmas.{IsSumTo-stored}
use Rattle.gain_mix.proofs.mix.add_to_four.Goals as goal

pub returns : goal.returns
returns c =
    let xs = c.args.values.now in
    let rows = c.args.rows.now in
    let next = c.args.input + 1 in
    record {
      first = IsSumTo-stored rows.first.now xs next c.add_next.result (search rules) c.add_next.ensures;
      second = IsSumTo-stored rows.second.now xs next c.add_next-2.result (search rules) c.add_next-2.ensures;
      third = IsSumTo-stored rows.third.now xs next c.add_next-3.result (search rules) c.add_next-3.ensures;
      fourth = IsSumTo-stored rows.fourth.now xs next c.add_next-4.result (search rules) c.add_next-4.ensures;
    }

pub add_next-requires-4-clause-row : goal.add_next-requires-4-clause-row
add_next-requires-4-clause-row c = omega arith

pub add_next-requires-clause-row : goal.add_next-requires-clause-row
add_next-requires-clause-row c = omega arith

pub add_next-requires-3-clause-row : goal.add_next-requires-3-clause-row
add_next-requires-3-clause-row c = omega arith

pub add_next-requires-2-clause-row : goal.add_next-requires-2-clause-row
add_next-requires-2-clause-row c = omega arith

pub add_next-requires-4-clause-so_far : goal.add_next-requires-4-clause-so_far
add_next-requires-4-clause-so_far c = grind (arith, elements)
