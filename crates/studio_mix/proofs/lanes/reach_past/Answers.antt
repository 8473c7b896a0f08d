use Rattle.std.proofs.lemmas.Grind.{common_steps, elements}
use Rattle.std.proofs.Common.{◌≡◌, get_or, sym, subst, ◌∙◌, arith, below_more, to_z, of_z, w64, false, slice_get, Some, ℕ}
use Rattle.std.proofs.lemmas.Int.{ints}
use Rattle.std.proofs.lemmas.Option.{get_or_from_slice_get, slice_get-get_or}
use Rattle.std.proofs.lemmas.List.Folds.{list_any_none}
use Rattle.lane_align.specs.Lane.{LaneState}
use Rattle.studio_mix.specs.Lanes.{reaches_past}
use Rattle.studio_mix.proofs.ReadyLemmas.{not_past}
use Rattle.studio_mix.proofs.lanes.reach_past.Goals as goal

pub loop-lane-preserved : goal.loop-lane-preserved
loop-lane-preserved c = λ k lane h at.
    let item = c.lane-item.result in
    let P : ℕ → Type 0 = λ j. slice_get c.args.lanes.now j ≡ Some lane → reaches_past (to_z w64 (of_z w64 c.args.time)) lane ≡ false in
    below_more P c.loop-lane.lane-index (λ j g. c.loop-lane.invariant j lane g)
    (λ here.
    let same : item ≡ lane = c.lane-item.is ∙ get_or_from_slice_get c.args.lanes.now c.loop-lane.lane-index lane item here in
    let after = c.if-time-end.false in
    subst (λ (l : LaneState). reaches_past (to_z w64 (of_z w64 c.args.time)) l ≡ false) same
    (not_past (to_z w64 (of_z w64 c.args.time)) item c.in-All.ensures.value (let e = c.end.ensures.value in let e' = c.if-time-end.false in omega (arith, ints, e, e'))))
    k h at

pub returns-clause-value : goal.returns-clause-value
returns-clause-value c =
    let lanes = c.args.lanes.now in
    let same : to_z w64 (of_z w64 c.args.time) ≡ c.args.time = omega (arith, ints) in
    sym (list_any_none (reaches_past c.args.time) lanes (λ k d h. subst (λ t. reaches_past t (get_or lanes k d) ≡ false) same (c.loop-lane.invariant k (get_or lanes k d) (omega arith) (slice_get-get_or lanes k d h))))

pub returns-then-time-end-clause-value : goal.returns-then-time-end-clause-value
returns-then-time-end-clause-value c = grind (arith, common_steps)

pub returns-in_default : goal.returns-in_default
returns-in_default c = grind (arith, common_steps)

pub returns-then-time-end-clause-early : goal.returns-then-time-end-clause-early
returns-then-time-end-clause-early c = grind (arith, elements)
