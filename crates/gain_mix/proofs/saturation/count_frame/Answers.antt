use Rattle.std.proofs.lemmas.Grind.{elements}
use Rattle.std.proofs.Common.{◌≡◌, ◌+◌, ◌<◌, ◌-◌, ◌^◌, ◌∙◌, min, ap, sym, arith, length, get_or, true, false, ℕ, subst}
use Rattle.gain_mix.specs.Saturated.{saturated_at}
use Rattle.gain_mix.proofs.SaturatedLemmas.{AreAddedTo, added_none, added_next, added_same, added_whole, at_output}
use Rattle.gain_mix.proofs.saturation.count_frame.Goals as goal
use Rattle.gain_mix.proofs.saturation.count_frame.Goals.{then-is_saturated, else-is_saturated}

pub loop-output-init : goal.loop-output-init
loop-output-init c = (added_none c.args.counts.now (saturated_at c.args.matrix.now c.args.ins.now c.args.shift), c.type_inv.counts)

pub loop-output-preserved : goal.loop-output-preserved
loop-output-preserved c =
    let old = c.args.counts.now in
    let now = c.loop-output.counts in
    let output = c.loop-output.output in
    let more : ℕ → ℕ = saturated_at c.args.matrix.now c.args.ins.now c.args.shift in
    let within : output < length old = c.loop-output-test.true in
    let in_rows : output < length c.args.matrix.now = omega (arith, within, c.requires.counts_len) in
    let now_at = at_output c.args.matrix.now c.args.ins.now c.args.shift output in
    let counted = c.loop-output.invariant.0 in (
      elim c.if-is_saturated.branch [
        | then-is_saturated w ↦
            let one : more output ≡ 1 = now_at true c.is_saturated.result in_rows w.if-is_saturated.true c.is_saturated.ensures in
            let sum : w.saturating_add.result ≡ min (get_or now output 0 + more output) (2 ^ 64 - 1) = w.saturating_add.ensures ∙ ap (λ x. min (get_or now output 0 + x) (2 ^ 64 - 1)) (sym one) in
            subst (λ counts. AreAddedTo old counts more (output + 1)) (sym w.counts-is) (added_next old now more output w.saturating_add.result counted within sum)
        | else-is_saturated w ↦
            let none : more output ≡ 0 = now_at false c.is_saturated.result in_rows w.if-is_saturated.false c.is_saturated.ensures in
            subst (λ counts. AreAddedTo old counts more (output + 1)) (sym w.counts-is) (added_same old now more output counted none c.loop-output.invariant.1)
      ],
      c.loop-output.invariant.1,
    )

pub returns : goal.returns
returns c = added_whole c.args.counts.now c.loop-output.counts (saturated_at c.args.matrix.now c.args.ins.now c.args.shift) c.loop-output.output c.loop-output.invariant.0 c.loop-output-test.false

pub is_saturated-requires-clause-mixed : goal.is_saturated-requires-clause-mixed
is_saturated-requires-clause-mixed c = grind (arith, elements)

pub bounds-outs-output : goal.bounds-outs-output
bounds-outs-output c = grind (arith, elements)

pub bounds-counts-output-then-is_saturated : goal.bounds-counts-output-then-is_saturated
bounds-counts-output-then-is_saturated c = omega arith
