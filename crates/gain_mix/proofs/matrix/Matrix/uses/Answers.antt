use Rattle.std.proofs.lemmas.Grind.{elements}
use Rattle.std.proofs.Common.{◌≡◌, ◌+◌, ◌-◌, length, take, drop, get_or, List, ℤ, sym, ap, subst, ◌∙◌, arith, false, true}
use Rattle.std.proofs.lemmas.Option.{get_or_from_slice_get, slice_get-get_or, slice_get_within}
use Rattle.std.proofs.lemmas.List.Folds.{list_any_none, list_any_at}
use Rattle.gain_mix.specs.Gain.{has_gain}
use Rattle.gain_mix.proofs.matrix.Matrix.uses.Goals as goal

pub row-requires : goal.row-requires
row-requires c = grind (arith, elements)

pub returns-then-has_gain : goal.returns-then-has_gain
returns-then-has_gain c =
    let rows = c.args.self.now in
    let k = c.loop-output.output in
    let here = get_or_from_slice_get rows k c.row.result.now c.row.result.now c.row.ensures.row in
    sym (list_any_at (λ row. has_gain (take c.args.count (drop c.args.at row))) rows k c.row.result.now (slice_get_within rows k c.row.result.now c.row.ensures.row)
    (ap (λ row. has_gain (take c.args.count (drop c.args.at row))) here
    ∙ ap (λ n. has_gain (take n (drop c.args.at c.row.result.now))) (let n : c.args.count ≡ (c.args.at + c.args.count) - c.args.at = omega arith in n)
    ∙ sym c.has_gain.ensures
    ∙ c.if-has_gain.true))

pub returns : goal.returns
returns c =
    let rows = c.args.self.now in
    sym (list_any_none (λ row. has_gain (take c.args.count (drop c.args.at row))) rows (λ k d h. c.loop-output.invariant k (get_or rows k d) (grind (arith, elements)) (slice_get-get_or rows k d h)))
