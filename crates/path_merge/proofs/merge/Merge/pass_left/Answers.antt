use Rattle.std.proofs.lemmas.Grind.{common_steps}
use Rattle.std.proofs.Common.{◌≡◌, ◌<◌, true, false, Some, IfSome, ap, sym, subst, ◌∙◌, rules, arith}
use Rattle.path_merge.specs.MergeState.{MergeState, IsSound}
use Rattle.path_merge.specs.NextMark.{next_left}
use Rattle.path_merge.specs.Steps.{Drains, marks_left}
use Rattle.path_merge.proofs.DrainLemmas.{drains_none, drains_slot}
use Rattle.path_merge.proofs.NextMarkLemmas.{drains_end_left, ended_is, fewer_left, left_mark_is, left_more}
use Rattle.path_merge.proofs.merge.Merge.pass_left.Goals as goal

pub returns-then-self-clause-stands : goal.returns-then-self-clause-stands
returns-then-self-clause-stands g c = λ stream open_at events k at.
    let sound : IsSound c.args.self.now c.self.inside.next_media = subst (λ m. IsSound m c.self.inside.next_media) c.self.view_is c.self.invariant in
    let shut : c.args.self.now.closed ≡ true = ap (λ (m : MergeState). m.closed) (sym c.self.view_is) ∙ c.if-not-self.false in
    let ended : c.args.self.now.ended ≡ true = ap (λ (m : MergeState). m.ended) (sym c.self.view_is) ∙ c.if-self.true in
    subst (λ o. Drains stream open_at c.args.self.now events k o) (sym (ended_is c.args.self.now shut ended)) (drains_none stream open_at c.args.self.now c.self.inside.next_media sound events k at shut ended)

pub pass_slot_left-requires-clause-more : goal.pass_slot_left-requires-clause-more
pass_slot_left-requires-clause-more g c = (left_more c.args.self.now c.in-Some.anchor (sym c.anchor_after_close.ensures ∙ c.in-Some.is)).1

pub returns-in-Some-clause-stands : goal.returns-in-Some-clause-stands
returns-in-Some-clause-stands g c = λ stream open_at events k at.
    let sound : IsSound c.args.self.now c.self.inside.next_media = subst (λ m. IsSound m c.self.inside.next_media) c.self.view_is c.self.invariant in
    let shut : c.args.self.now.closed ≡ true = ap (λ (m : MergeState). m.closed) (sym c.self.view_is) ∙ c.if-not-self.false in
    let unended : c.args.self.now.ended ≡ false = ap (λ (m : MergeState). m.ended) (sym c.self.view_is) ∙ c.if-self.false in
    let more = left_more c.args.self.now c.in-Some.anchor (sym c.anchor_after_close.ensures ∙ c.in-Some.is) in
    subst (λ o. Drains stream open_at c.pass_slot_left.new.self events k o) (sym (left_mark_is c.args.self.now (Some c.in-Some.anchor) shut unended (sym c.anchor_after_close.ensures ∙ c.in-Some.is)))
    (drains_slot stream open_at c.args.self.now c.self.inside.next_media sound events k at shut c.pass_slot_left.new.self c.in-Some.anchor more.0 unended more.1 c.pass_slot_left.ensures)

pub returns-in-Some-clause-fewer : goal.returns-in-Some-clause-fewer
returns-in-Some-clause-fewer g c =
    let sound : IsSound c.args.self.now c.self.inside.next_media = subst (λ m. IsSound m c.self.inside.next_media) c.self.view_is c.self.invariant in
    let shut : c.args.self.now.closed ≡ true = ap (λ (m : MergeState). m.closed) (sym c.self.view_is) ∙ c.if-not-self.false in
    let unended : c.args.self.now.ended ≡ false = ap (λ (m : MergeState). m.ended) (sym c.self.view_is) ∙ c.if-self.false in
    let more = left_more c.args.self.now c.in-Some.anchor (sym c.anchor_after_close.ensures ∙ c.in-Some.is) in
    subst (λ o. IfSome o (λ mark. marks_left c.pass_slot_left.new.self < marks_left c.args.self.now)) (sym (left_mark_is c.args.self.now (Some c.in-Some.anchor) shut unended (sym c.anchor_after_close.ensures ∙ c.in-Some.is)))
    (fewer_left c.args.self.now c.pass_slot_left.new.self c.self.inside.next_media c.in-Some.anchor sound more.0 more.1 c.pass_slot_left.ensures)

pub returns-in-None-clause-stands : goal.returns-in-None-clause-stands
returns-in-None-clause-stands g c = λ stream open_at events k at.
    let sound : IsSound c.args.self.now c.self.inside.next_media = subst (λ m. IsSound m c.self.inside.next_media) c.self.view_is c.self.invariant in
    let shut : c.args.self.now.closed ≡ true = ap (λ (m : MergeState). m.closed) (sym c.self.view_is) ∙ c.if-not-self.false in
    let unended : c.args.self.now.ended ≡ false = ap (λ (m : MergeState). m.ended) (sym c.self.view_is) ∙ c.if-self.false in
    subst (λ m. Drains stream open_at m events k (next_left c.args.self.now)) (ap (λ (m : MergeState). record m { ended = true }) (sym c.self.view_is)) (drains_end_left stream open_at c.args.self.now c.self.inside.next_media sound events k at shut unended (sym c.anchor_after_close.ensures ∙ c.in-None.is))

pub returns-then-not-self-clause-slot : goal.returns-then-not-self-clause-slot
returns-then-not-self-clause-slot g c = search rules

pub returns-then-self-clause-slot : goal.returns-then-self-clause-slot
returns-then-self-clause-slot g c = search rules

pub returns-in-None-clause-slot : goal.returns-in-None-clause-slot
returns-in-None-clause-slot g c = search rules

pub returns-in-Some-clause-slot : goal.returns-in-Some-clause-slot
returns-in-Some-clause-slot g c = search rules

pub returns-then-not-self-clause-all : goal.returns-then-not-self-clause-all
returns-then-not-self-clause-all g c = search rules

pub returns-then-self-clause-all : goal.returns-then-self-clause-all
returns-then-self-clause-all g c = search rules

pub returns-in-None-clause-all : goal.returns-in-None-clause-all
returns-in-None-clause-all g c = search rules

pub returns-in-Some-clause-all : goal.returns-in-Some-clause-all
returns-in-Some-clause-all g c = search rules

pub returns-then-not-self-clause-none : goal.returns-then-not-self-clause-none
returns-then-not-self-clause-none g c = search rules

pub returns-then-self-clause-none : goal.returns-then-self-clause-none
returns-then-self-clause-none g c = search rules

pub returns-in-None-clause-none : goal.returns-in-None-clause-none
returns-in-None-clause-none g c = search rules

pub returns-in-Some-clause-none : goal.returns-in-Some-clause-none
returns-in-Some-clause-none g c = search rules

pub returns-then-not-self-clause-fewer : goal.returns-then-not-self-clause-fewer
returns-then-not-self-clause-fewer g c = search rules

pub returns-then-self-clause-fewer : goal.returns-then-self-clause-fewer
returns-then-self-clause-fewer g c = search rules

pub returns-in-None-clause-fewer : goal.returns-in-None-clause-fewer
returns-in-None-clause-fewer g c = search rules

pub returns-then-not-self-clause-time : goal.returns-then-not-self-clause-time
returns-then-not-self-clause-time g c = search rules

pub returns-then-self-clause-time : goal.returns-then-self-clause-time
returns-then-self-clause-time g c = search rules

pub returns-in-None-clause-time : goal.returns-in-None-clause-time
returns-in-None-clause-time g c = search rules

pub returns-in-Some-clause-time : goal.returns-in-Some-clause-time
returns-in-Some-clause-time g c = search rules

pub returns-then-not-self-clause-closed : goal.returns-then-not-self-clause-closed
returns-then-not-self-clause-closed g c = search rules

pub returns-then-self-clause-closed : goal.returns-then-self-clause-closed
returns-then-self-clause-closed g c = search rules

pub returns-in-None-clause-closed : goal.returns-in-None-clause-closed
returns-in-None-clause-closed g c = search rules

pub returns-in-Some-clause-closed : goal.returns-in-Some-clause-closed
returns-in-Some-clause-closed g c = search rules

pub returns-then-not-self-clause-spec : goal.returns-then-not-self-clause-spec
returns-then-not-self-clause-spec g c = search rules

pub returns-then-self-clause-spec : goal.returns-then-self-clause-spec
returns-then-self-clause-spec g c = search rules

pub returns-in-None-clause-spec : goal.returns-in-None-clause-spec
returns-in-None-clause-spec g c = search rules

pub returns-in-Some-clause-spec : goal.returns-in-Some-clause-spec
returns-in-Some-clause-spec g c = search rules

pub pass_slot_left-requires-clause-anchored : goal.pass_slot_left-requires-clause-anchored
pass_slot_left-requires-clause-anchored g c = search rules

pub returns-then-not-self-clause-stands : goal.returns-then-not-self-clause-stands
returns-then-not-self-clause-stands c = grind (arith, common_steps)
