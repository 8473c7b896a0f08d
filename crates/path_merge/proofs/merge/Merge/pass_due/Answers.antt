use Rattle.std.proofs.Common.{◌≡◌, Some, None, w64, arith, ap, sym, subst, ◌∙◌, rules}
use Rattle.std.proofs.lemmas.Int.{ints, to_z-of_z}
use Rattle.path_merge.specs.NextMark.{anchor_due, quiet_next}
use Rattle.path_merge.specs.Steps.{Advances, Moves}
use Rattle.path_merge.proofs.SoundLemmas.{due_times}
use Rattle.path_merge.proofs.AdvanceLemmas.{IsAtReading, advance_slot, advance_time}
use Rattle.path_merge.proofs.NextMarkLemmas.{due, next_is, not_due, reading}
use Rattle.path_merge.specs.MergeState.{MergeState}
use Rattle.path_merge.proofs.merge.Merge.pass_due.Goals as goal

pub pass_due_slot-requires-clause-soon : goal.pass_due_slot-requires-clause-soon
pass_due_slot-requires-clause-soon g c =
    let r : IsAtReading c.args.self.now c.self.inside.next_media c.args.now = reading _ c.args.self.now c.self.inside.next_media c.args.now c.self.view_is c.self.invariant c.requires in
    let is : anchor_due c.args.self.now c.args.now ≡ Some c.in-Some.anchor = sym (ap (anchor_due c.args.self.now) (to_z-of_z w64 c.args.now c.ranges.now)) ∙ sym c.anchor_due.ensures ∙ c.in-Some.is in
    let d = due c.args.self.now c.args.now c.in-Some.anchor is in
    omega (arith, ints, d.1, r.not_far)

pub returns-in-Some-clause-stands : goal.returns-in-Some-clause-stands
returns-in-Some-clause-stands g c = λ stream open_at events k at.
    let r : IsAtReading c.args.self.now c.self.inside.next_media c.args.now = reading _ c.args.self.now c.self.inside.next_media c.args.now c.self.view_is c.self.invariant c.requires in
    let is : anchor_due c.args.self.now c.args.now ≡ Some c.in-Some.anchor = sym (ap (anchor_due c.args.self.now) (to_z-of_z w64 c.args.now c.ranges.now)) ∙ sym c.anchor_due.ensures ∙ c.in-Some.is in
    let d = due c.args.self.now c.args.now c.in-Some.anchor is in
    subst (λ o. Advances stream open_at c.args.self.now c.pass_due_slot.new.self events k c.args.now o) (sym (next_is c.args.self.now c.args.now (Some c.in-Some.anchor) is))
    (advance_slot stream open_at c.args.self.now c.self.inside.next_media r.sound r.open_yet events k at c.pass_due_slot.new.self c.in-Some.anchor c.args.now d.0 d.1 r.not_far c.pass_due_slot.ensures)

pub returns-in-Some-clause-moved : goal.returns-in-Some-clause-moved
returns-in-Some-clause-moved g c =
    let r : IsAtReading c.args.self.now c.self.inside.next_media c.args.now = reading _ c.args.self.now c.self.inside.next_media c.args.now c.self.view_is c.self.invariant c.requires in
    let is : anchor_due c.args.self.now c.args.now ≡ Some c.in-Some.anchor = sym (ap (anchor_due c.args.self.now) (to_z-of_z w64 c.args.now c.ranges.now)) ∙ sym c.anchor_due.ensures ∙ c.in-Some.is in
    let d = due c.args.self.now c.args.now c.in-Some.anchor is in
    let t = due_times c.args.self.now c.self.inside.next_media c.in-Some.anchor r.sound d.0 r.open_yet in
    let time_is = ap (λ (m : MergeState). m.time) c.pass_due_slot.ensures.changed in
    subst (λ o. Moves c.args.self.now c.pass_due_slot.new.self c.args.now o) (sym (next_is c.args.self.now c.args.now (Some c.in-Some.anchor) is))
    (omega (arith, ints, time_is, t.later), omega (arith, ints, time_is, d.1), ap (λ (m : MergeState). m.closed) c.pass_due_slot.ensures.changed)

pub pass_time-requires-clause-not_back : goal.pass_time-requires-clause-not_back
pass_time-requires-clause-not_back g c =
    let r : IsAtReading c.args.self.now c.self.inside.next_media c.args.now = reading _ c.args.self.now c.self.inside.next_media c.args.now c.self.view_is c.self.invariant c.requires in
    rw (to_z-of_z w64 c.args.now c.ranges.now) r.not_back

pub pass_time-requires-clause-no_deadline : goal.pass_time-requires-clause-no_deadline
pass_time-requires-clause-no_deadline g c =
    let is : anchor_due c.args.self.now c.args.now ≡ None = sym (ap (anchor_due c.args.self.now) (to_z-of_z w64 c.args.now c.ranges.now)) ∙ sym c.anchor_due.ensures ∙ c.in-None.is in
    rw (to_z-of_z w64 c.args.now c.ranges.now) (not_due c.args.self.now c.args.now is)

pub returns-in-None-clause-stands : goal.returns-in-None-clause-stands
returns-in-None-clause-stands g c = λ stream open_at events k at.
    let r : IsAtReading c.args.self.now c.self.inside.next_media c.args.now = reading _ c.args.self.now c.self.inside.next_media c.args.now c.self.view_is c.self.invariant c.requires in
    let is : anchor_due c.args.self.now c.args.now ≡ None = sym (ap (anchor_due c.args.self.now) (to_z-of_z w64 c.args.now c.ranges.now)) ∙ sym c.anchor_due.ensures ∙ c.in-None.is in
    let now_is = to_z-of_z w64 c.args.now c.ranges.now in
    subst (λ o. Advances stream open_at c.args.self.now c.pass_time.new.self events k c.args.now o) (sym (next_is c.args.self.now c.args.now None is))
    (advance_time stream open_at c.args.self.now c.self.inside.next_media r.sound r.open_yet events k at c.pass_time.new.self c.args.now (quiet_next c.args.self.now c.args.now) r.not_back r.not_far (not_due c.args.self.now c.args.now is) (rw now_is at c.pass_time.ensures))

pub returns-in-Some-clause-slot : goal.returns-in-Some-clause-slot
returns-in-Some-clause-slot g c = search rules

pub returns-in-Some-clause-spec : goal.returns-in-Some-clause-spec
returns-in-Some-clause-spec g c = search rules

pub returns-in-None-clause-slot : goal.returns-in-None-clause-slot
returns-in-None-clause-slot g c = search rules

pub returns-in-None-clause-moved : goal.returns-in-None-clause-moved
returns-in-None-clause-moved g c = search rules

pub returns-in-None-clause-spec : goal.returns-in-None-clause-spec
returns-in-None-clause-spec g c = search rules

pub pass_due_slot-requires-clause-anchored : goal.pass_due_slot-requires-clause-anchored
pass_due_slot-requires-clause-anchored g c =
    let is : anchor_due c.args.self.now c.args.now ≡ Some c.in-Some.anchor = sym (ap (anchor_due c.args.self.now) (to_z-of_z w64 c.args.now c.ranges.now)) ∙ sym c.anchor_due.ensures ∙ c.in-Some.is in
    (due c.args.self.now c.args.now c.in-Some.anchor is).0

pub pass_due_slot-requires-clause-open_yet : goal.pass_due_slot-requires-clause-open_yet
pass_due_slot-requires-clause-open_yet g c = search rules

pub pass_time-requires-clause-not_far : goal.pass_time-requires-clause-not_far
pass_time-requires-clause-not_far g c = search rules

pub pass_time-requires-clause-open_yet : goal.pass_time-requires-clause-open_yet
pass_time-requires-clause-open_yet g c = search rules

pub anchor_due-requires : goal.anchor_due-requires
anchor_due-requires g c = search rules
