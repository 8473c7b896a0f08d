use Rattle.std.proofs.lemmas.Grind.{elements}
use Rattle.std.proofs.Common.{rules, arith, ◌≡◌, ◌<◌, ◌∷◌, ◌++◌, [], ℤ, List, length, inr, refl, ap, ◌∙◌, to_z, of_z, w64}
use Rattle.std.proofs.lemmas.Bool.{le-ltb, lt-ltb}
use Rattle.std.proofs.lemmas.Int.{to_z-of_z}
use Rattle.gain_mix.specs.Changes.{Changes, before}
use Rattle.gain_mix.specs.Schedule.{schedule_fault_of}
use Rattle.studio_run.proofs.ScheduleLemmas.{changed-no_fault}
use Rattle.studio_run.proofs.gains.change.schedule_with_change.Goals as goal

pub returns-then-len-ge-MAX_CHANGES-clause-fault : goal.returns-then-len-ge-MAX_CHANGES-clause-fault
returns-then-len-ge-MAX_CHANGES-clause-fault c =
    let kept = c.changes_before-later.ensures ∙ ap (λ t. before t c.into_parts-first.result.1.items) (to_z-of_z w64 c.args.at c.ranges.at) ∙ ap (before c.args.at) c.into_parts-first.ensures.later in
    let count : c.len.result ≡ length c.changes_before-later.result.items = search rules in
    inr (refl, le-ltb (length (before c.args.at c.args.schedule.later)) 64 (omega (arith, count, ap length kept)))

pub made_schedule-requires : goal.made_schedule-requires
made_schedule-requires c =
    let kept = c.changes_before-later.ensures ∙ ap (λ t. before t c.into_parts-first.result.1.items) (to_z-of_z w64 c.args.at c.ranges.at) ∙ ap (before c.args.at) c.into_parts-first.ensures.later in
    let count : c.len.result ≡ length c.changes_before-later.result.items = search rules in
    let space : length (before c.args.at c.args.schedule.later) < 64 = omega (arith, count, ap length kept) in
    let pushed : c.push.new.self.items ≡ c.changes_before-later.result.items ++ (to_z w64 (of_z w64 c.args.at), c.args.matrix) ∷ [] = search rules in
    let parts = c.into_parts-first.ensures in
    ap (λ (f : List (List ℤ)). schedule_fault_of f c.push.new.self.items) parts.first
    ∙ ap (schedule_fault_of c.args.schedule.first) (pushed ∙ ap (λ (l : List (ℤ × List (List ℤ))). l ++ (to_z w64 (of_z w64 c.args.at), c.args.matrix) ∷ []) kept ∙ ap (λ (t : ℤ). before c.args.at c.args.schedule.later ++ (t, c.args.matrix) ∷ []) (to_z-of_z w64 c.args.at c.ranges.at))
    ∙ changed-no_fault c.args.schedule.first c.args.schedule.later (c.args.at, c.args.matrix) parts.no_fault c.requires.time c.requires.outs c.requires.ins space

pub returns-in-Ok-clause-ok : goal.returns-in-Ok-clause-ok
returns-in-Ok-clause-ok c =
    let kept = c.changes_before-later.ensures ∙ ap (λ t. before t c.into_parts-first.result.1.items) (to_z-of_z w64 c.args.at c.ranges.at) ∙ ap (before c.args.at) c.into_parts-first.ensures.later in
    let pushed : c.push.new.self.items ≡ c.changes_before-later.result.items ++ (to_z w64 (of_z w64 c.args.at), c.args.matrix) ∷ [] = search rules in
    let later = pushed ∙ ap (λ (l : List (ℤ × List (List ℤ))). l ++ (to_z w64 (of_z w64 c.args.at), c.args.matrix) ∷ []) kept ∙ ap (λ (t : ℤ). before c.args.at c.args.schedule.later ++ (t, c.args.matrix) ∷ []) (to_z-of_z w64 c.args.at c.ranges.at) in
    let make : List (List ℤ) → List (ℤ × List (List ℤ)) → Changes = λ f l. record { first = f; later = l } in
    c.made_schedule.ensures ∙ ap (λ f. make f c.push.new.self.items) c.into_parts-first.ensures.first ∙ ap (make c.args.schedule.first) later

pub returns-in-Ok-clause-fine : goal.returns-in-Ok-clause-fine
returns-in-Ok-clause-fine c =
    let kept = c.changes_before-later.ensures ∙ ap (λ t. before t c.into_parts-first.result.1.items) (to_z-of_z w64 c.args.at c.ranges.at) ∙ ap (before c.args.at) c.into_parts-first.ensures.later in
    let count : c.len.result ≡ length c.changes_before-later.result.items = search rules in
    lt-ltb (length (before c.args.at c.args.schedule.later)) 64 (omega (arith, count, ap length kept))

pub returns-in-Err-clause-fault : goal.returns-in-Err-clause-fault
returns-in-Err-clause-fault c = grind (arith, elements)
