use Rattle.std.proofs.Common.{arith, ap, ◌∙◌}
use Rattle.rtp_stream.specs.CountsFacts.{increased_at}
use Rattle.rtp_stream.proofs.CountsLemmas.{increased_at-set, sum-set_one_more, index-le-sum}
use Rattle.rtp_stream.proofs.counts.add_one_at.Goals as goal

pub overflow_add-numbers : goal.overflow_add-numbers
overflow_add-numbers c = omega (arith, index-le-sum c.from.result c.args.numbers.now (omega (arith, c.told-numbers)))

pub returns-clause-value : goal.returns-clause-value
returns-clause-value c =
    let same = c.from.ensures ∙ c.number.ensures.value in
    increased_at-set c.from.result c.args.numbers.now (omega (arith, c.told-numbers)) ∙ ap (λ i. increased_at i c.args.numbers.now) same

pub returns-clause-total : goal.returns-clause-total
returns-clause-total c = sum-set_one_more c.from.result c.args.numbers.now (omega (arith, c.told-numbers))
