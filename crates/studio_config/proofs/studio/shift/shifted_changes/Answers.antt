use Rattle.std.proofs.Common.{◌≡◌, ℤ, ◌+ℤ◌, List, [], ◌∷◌, ◌++◌, false, inr, append-nil, ap, sym, ◌∙◌, rules, to_z, of_z, w64}
use Rattle.std.specs.Vec.Iter.{into_iter_items}
use Rattle.std.proofs.lemmas.Int.{to_z-of_z}
use Rattle.std.proofs.lemmas.List.{append_assoc, nil_from_length}
use Rattle.gain_mix.specs.Schedule.{has_times}
use Rattle.studio_config.proofs.ShiftLemmas.{has_times-seam, is_time-unfit}
use Rattle.studio_config.specs.Shift.{shifted_change, shifted_changes}
use Rattle.studio_config.proofs.studio.shift.shifted_changes.Goals as goal

pub loop-at-preserved : goal.loop-at-preserved
loop-at-preserved c =
    let by = to_z w64 (of_z w64 c.args.by) in
    let change : ℤ × List (List ℤ) = (c.in-Some.at, c.in-Some.matrix) in
    let rest : List (ℤ × List (List ℤ)) = into_iter_items c.next.new.self in
    let left : into_iter_items c.loop-at.rest ≡ change ∷ rest = search rules in
    let pushed : c.push.new.self.items ≡ c.loop-at.later.items ++ shifted_change by change ∷ [] = search rules in
    c.loop-at.invariant
    ∙ ap (λ items. c.loop-at.later.items ++ shifted_changes by items) left
    ∙ sym (append_assoc c.loop-at.later.items (shifted_change by change ∷ []) (shifted_changes by rest))
    ∙ ap (λ items. items ++ shifted_changes by rest) (sym pushed)

pub returns-in_default-checked_add-clause-fault : goal.returns-in_default-checked_add-clause-fault
returns-in_default-checked_add-clause-fault c =
    let by = to_z w64 (of_z w64 c.args.by) in
    let change : ℤ × List (List ℤ) = (c.in-Some.at, c.in-Some.matrix) in
    let rest : List (ℤ × List (List ℤ)) = into_iter_items c.next.new.self in
    let left : into_iter_items c.loop-at.rest ≡ change ∷ rest = search rules in
    let out = is_time-unfit (to_z w64 (of_z w64 c.in-Some.at) +ℤ by) c.in_default-checked_add.ensures in
    let at : to_z w64 (of_z w64 c.in-Some.at) ≡ c.in-Some.at = search rules in
    let moved : has_times (shifted_changes by c.args.changes.items) ≡ false =
    ap has_times (c.loop-at.invariant ∙ ap (λ items. c.loop-at.later.items ++ shifted_changes by items) left)
    ∙ has_times-seam c.loop-at.later.items (shifted_change by change) (shifted_changes by rest) (rw at at out) in
    let late : has_times (shifted_changes c.args.by c.args.changes.items) ≡ false = ap (λ at. has_times (shifted_changes at c.args.changes.items)) (sym (to_z-of_z w64 c.args.by c.ranges.by)) ∙ moved in
    inr (rw (late, c.out_of_range.ensures))

pub returns-clause-ok : goal.returns-clause-ok
returns-clause-ok c =
    let by = to_z w64 (of_z w64 c.args.by) in
    let left : into_iter_items c.loop-at.rest ≡ [] = nil_from_length (into_iter_items c.loop-at.rest) (sym c.loop-at.rest.rest.ok.0 ∙ c.in_default.ensures.cases.0) in
    sym (ap (λ at. shifted_changes at c.args.changes.items) (sym (to_z-of_z w64 c.args.by c.ranges.by)) ∙ c.loop-at.invariant ∙ ap (λ items. c.loop-at.later.items ++ shifted_changes by items) left ∙ append-nil c.loop-at.later.items)
