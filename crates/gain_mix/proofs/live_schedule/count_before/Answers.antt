use Rattle.std.proofs.lemmas.Grind.{common_steps}
use Rattle.std.proofs.Common.{rules, arith, ap, ◌∙◌, ◌≡◌, ◌+◌, ◌<ℤ◌, ◌≤ℤ◌, ℕ, length, drop, to_z, of_z, w64, FitsSigned}
use Rattle.std.proofs.lemmas.Int.{ints, to_z-of_z}
use Rattle.gain_mix.specs.Changes.{before}
use Rattle.gain_mix.proofs.LiveScheduleLemmas.{counted, few_counted, not_counted}
use Rattle.gain_mix.proofs.live_schedule.count_before.Goals as goal
use Rattle.gain_mix.proofs.live_schedule.count_before.Goals.{then-change-at, else-change-at}

pub overflow_add-kept : goal.overflow_add-kept
overflow_add-kept c =
    let change = c.change-item.result in
    let at = to_z w64 (of_z w64 c.args.at) in
    let fits : FitsSigned w64 change.0 = search rules in
    let yes = rw (to_z-of_z w64 change.0 fits) at c.if-change-at.true in
    let early : change.0 <ℤ at = grind (arith, ints, yes) in
    let few = few_counted at c.args.later.now c.loop-change.change-index c.loop-change.kept change c.loop-change-test.true c.change-item.is c.loop-change.invariant early in
    omega (arith, few)

pub loop-change-preserved : goal.loop-change-preserved
loop-change-preserved c =
    let items = c.args.later.now in
    let i = c.loop-change.change-index in
    let kept = c.loop-change.kept in
    let change = c.change-item.result in
    let at = to_z w64 (of_z w64 c.args.at) in
    let fits : FitsSigned w64 change.0 = search rules in
    let taken : (new : ℕ) → (k : ℕ) → new ≡ k → k + length (before at (drop (i + 1) items)) ≡ length (before at items) → new + length (before at (drop (i + 1) items)) ≡ length (before at items) = λ new k e sum. ap (λ n. n + length (before at (drop (i + 1) items))) e ∙ sum in
    elim c.if-change-at.branch [ then-change-at w ↦ let yes = rw (to_z-of_z w64 change.0 fits) at w.if-change-at.true in let early : change.0 <ℤ at = grind (arith, ints, yes) in taken _ (kept + 1) w.kept-is (counted at items i kept change c.loop-change-test.true c.change-item.is c.loop-change.invariant early) | else-change-at w ↦ let no = rw (to_z-of_z w64 change.0 fits) at w.if-change-at.false in let late : at ≤ℤ change.0 = grind (arith, ints, no) in taken _ kept w.kept-is (not_counted at items i kept change c.loop-change-test.true c.change-item.is c.loop-change.invariant late) ]

pub returns : goal.returns
returns c = grind (arith, common_steps)
