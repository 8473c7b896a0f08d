use Rattle.std.proofs.Common.{◌≡◌, ◌-◌, Some, None, w64, true, arith, ap, sym, ◌∙◌}
use Rattle.std.proofs.lemmas.Int.{ints, to_z-of_z}
use Rattle.rtp_stream.specs.Anchor.{next_number}
use Rattle.path_merge.specs.MergeState.{MergeState, holds_nothing}
use Rattle.path_merge.specs.NextMark.{anchor_due}
use Rattle.path_merge.specs.Window.{IsEmpty}
use Rattle.path_merge.proofs.AdvanceLemmas.{IsAtReading}
use Rattle.path_merge.proofs.NextMarkLemmas.{due, reading}
use Rattle.path_merge.proofs.OpeningLemmas.{nothing_held}
use Rattle.path_merge.proofs.RunLemmas.{still_no_fault}
use Rattle.path_merge.proofs.PassLostLemmas.{lost_is, loses_none, loses_slots, none_lost_early, passed_time, some_due}
use Rattle.path_merge.proofs.merge.Merge.pass_lost.Goals as goal

pub returns-then-not-holds_nothing-clause-stands : goal.returns-then-not-holds_nothing-clause-stands
returns-then-not-holds_nothing-clause-stands g c =
    let r : IsAtReading c.args.self.now c.self.inside.next_media c.args.now = reading _ c.args.self.now c.self.inside.next_media c.args.now c.self.view_is c.self.invariant c.requires in
    loses_none c.args.self.now c.self.inside.next_media c.args.now r.sound r.open_yet r.not_back r.not_far

pub slots_until-count-requires-clause-anchored : goal.slots_until-count-requires-clause-anchored
slots_until-count-requires-clause-anchored g c =
    let now_is = to_z-of_z w64 c.args.now c.ranges.now in
    let is : anchor_due c.args.self.now c.args.now ≡ Some c.in-Some.anchor = sym (ap (anchor_due c.args.self.now) now_is) ∙ sym c.anchor_due.ensures ∙ c.in-Some.is in
    let d = due c.args.self.now c.args.now c.in-Some.anchor is in
    d.0

pub slots_until-count-requires-clause-come : goal.slots_until-count-requires-clause-come
slots_until-count-requires-clause-come g c =
    let now_is = to_z-of_z w64 c.args.now c.ranges.now in
    let is : anchor_due c.args.self.now c.args.now ≡ Some c.in-Some.anchor = sym (ap (anchor_due c.args.self.now) now_is) ∙ sym c.anchor_due.ensures ∙ c.in-Some.is in
    let d = due c.args.self.now c.args.now c.in-Some.anchor is in
    rw now_is d.1

pub pass_slots-requires-clause-anchored : goal.pass_slots-requires-clause-anchored
pass_slots-requires-clause-anchored g c =
    let now_is = to_z-of_z w64 c.args.now c.ranges.now in
    let is : anchor_due c.args.self.now c.args.now ≡ Some c.in-Some.anchor = sym (ap (anchor_due c.args.self.now) now_is) ∙ sym c.anchor_due.ensures ∙ c.in-Some.is in
    let d = due c.args.self.now c.args.now c.in-Some.anchor is in
    d.0

pub pass_slots-requires-clause-empty : goal.pass_slots-requires-clause-empty
pass_slots-requires-clause-empty g c =
    let r : IsAtReading c.args.self.now c.self.inside.next_media c.args.now = reading _ c.args.self.now c.self.inside.next_media c.args.now c.self.view_is c.self.invariant c.requires in
    let now_is = to_z-of_z w64 c.args.now c.ranges.now in
    let is : anchor_due c.args.self.now c.args.now ≡ Some c.in-Some.anchor = sym (ap (anchor_due c.args.self.now) now_is) ∙ sym c.anchor_due.ensures ∙ c.in-Some.is in
    let d = due c.args.self.now c.args.now c.in-Some.anchor is in
    let nothing : holds_nothing c.args.self.now ≡ true = sym c.holds_nothing.ensures ∙ c.if-not-holds_nothing.false in
    nothing_held c.args.self.now c.self.inside.next_media c.in-Some.anchor r.sound d.0 r.open_yet nothing

pub pass_slots-requires-clause-some : goal.pass_slots-requires-clause-some
pass_slots-requires-clause-some g c =
    let r : IsAtReading c.args.self.now c.self.inside.next_media c.args.now = reading _ c.args.self.now c.self.inside.next_media c.args.now c.self.view_is c.self.invariant c.requires in
    let now_is = to_z-of_z w64 c.args.now c.ranges.now in
    let is : anchor_due c.args.self.now c.args.now ≡ Some c.in-Some.anchor = sym (ap (anchor_due c.args.self.now) now_is) ∙ sym c.anchor_due.ensures ∙ c.in-Some.is in
    let d = due c.args.self.now c.args.now c.in-Some.anchor is in
    let count : c.slots_until-count.result ≡ next_number c.args.self.now.spec c.in-Some.anchor c.args.now - c.args.self.now.base = c.slots_until-count.ensures ∙ ap (λ z. next_number c.args.self.now.spec c.in-Some.anchor z - c.args.self.now.base) now_is in
    let last = some_due c.args.self.now c.self.inside.next_media c.in-Some.anchor r.sound d.0 r.open_yet c.args.now c.slots_until-count.result d.1 count in
    last.0

pub pass_slots-requires-clause-soon : goal.pass_slots-requires-clause-soon
pass_slots-requires-clause-soon g c =
    let r : IsAtReading c.args.self.now c.self.inside.next_media c.args.now = reading _ c.args.self.now c.self.inside.next_media c.args.now c.self.view_is c.self.invariant c.requires in
    let now_is = to_z-of_z w64 c.args.now c.ranges.now in
    let is : anchor_due c.args.self.now c.args.now ≡ Some c.in-Some.anchor = sym (ap (anchor_due c.args.self.now) now_is) ∙ sym c.anchor_due.ensures ∙ c.in-Some.is in
    let d = due c.args.self.now c.args.now c.in-Some.anchor is in
    let count : c.slots_until-count.result ≡ next_number c.args.self.now.spec c.in-Some.anchor c.args.now - c.args.self.now.base = c.slots_until-count.ensures ∙ ap (λ z. next_number c.args.self.now.spec c.in-Some.anchor z - c.args.self.now.base) now_is in
    let last = some_due c.args.self.now c.self.inside.next_media c.in-Some.anchor r.sound d.0 r.open_yet c.args.now c.slots_until-count.result d.1 count in
    omega (arith, ints, last.1, r.not_far)

pub returns-else-not-holds_nothing-clause-value : goal.returns-else-not-holds_nothing-clause-value
returns-else-not-holds_nothing-clause-value g c =
    let now_is = to_z-of_z w64 c.args.now c.ranges.now in
    let is : anchor_due c.args.self.now c.args.now ≡ Some c.in-Some.anchor = sym (ap (anchor_due c.args.self.now) now_is) ∙ sym c.anchor_due.ensures ∙ c.in-Some.is in
    let d = due c.args.self.now c.args.now c.in-Some.anchor is in
    let count : c.slots_until-count.result ≡ next_number c.args.self.now.spec c.in-Some.anchor c.args.now - c.args.self.now.base = c.slots_until-count.ensures ∙ ap (λ z. next_number c.args.self.now.spec c.in-Some.anchor z - c.args.self.now.base) now_is in
    let nothing : holds_nothing c.args.self.now ≡ true = sym c.holds_nothing.ensures ∙ c.if-not-holds_nothing.false in
    count ∙ lost_is c.args.self.now c.args.now c.in-Some.anchor d.0 nothing

pub returns-else-not-holds_nothing-clause-none : goal.returns-else-not-holds_nothing-clause-none
returns-else-not-holds_nothing-clause-none g c =
    let r : IsAtReading c.args.self.now c.self.inside.next_media c.args.now = reading _ c.args.self.now c.self.inside.next_media c.args.now c.self.view_is c.self.invariant c.requires in
    let now_is = to_z-of_z w64 c.args.now c.ranges.now in
    let is : anchor_due c.args.self.now c.args.now ≡ Some c.in-Some.anchor = sym (ap (anchor_due c.args.self.now) now_is) ∙ sym c.anchor_due.ensures ∙ c.in-Some.is in
    let d = due c.args.self.now c.args.now c.in-Some.anchor is in
    let count : c.slots_until-count.result ≡ next_number c.args.self.now.spec c.in-Some.anchor c.args.now - c.args.self.now.base = c.slots_until-count.ensures ∙ ap (λ z. next_number c.args.self.now.spec c.in-Some.anchor z - c.args.self.now.base) now_is in
    let last = some_due c.args.self.now c.self.inside.next_media c.in-Some.anchor r.sound d.0 r.open_yet c.args.now c.slots_until-count.result d.1 count in
    λ zero. absurd (omega (arith, zero, last.0))

pub returns-else-not-holds_nothing-clause-stands : goal.returns-else-not-holds_nothing-clause-stands
returns-else-not-holds_nothing-clause-stands g c =
    let r : IsAtReading c.args.self.now c.self.inside.next_media c.args.now = reading _ c.args.self.now c.self.inside.next_media c.args.now c.self.view_is c.self.invariant c.requires in
    let now_is = to_z-of_z w64 c.args.now c.ranges.now in
    let is : anchor_due c.args.self.now c.args.now ≡ Some c.in-Some.anchor = sym (ap (anchor_due c.args.self.now) now_is) ∙ sym c.anchor_due.ensures ∙ c.in-Some.is in
    let d = due c.args.self.now c.args.now c.in-Some.anchor is in
    let count : c.slots_until-count.result ≡ next_number c.args.self.now.spec c.in-Some.anchor c.args.now - c.args.self.now.base = c.slots_until-count.ensures ∙ ap (λ z. next_number c.args.self.now.spec c.in-Some.anchor z - c.args.self.now.base) now_is in
    let last = some_due c.args.self.now c.self.inside.next_media c.in-Some.anchor r.sound d.0 r.open_yet c.args.now c.slots_until-count.result d.1 count in
    let nothing : holds_nothing c.args.self.now ≡ true = sym c.holds_nothing.ensures ∙ c.if-not-holds_nothing.false in
    let empty : IsEmpty c.args.self.now.held = nothing_held c.args.self.now c.self.inside.next_media c.in-Some.anchor r.sound d.0 r.open_yet nothing in
    loses_slots c.args.self.now c.self.inside.next_media c.in-Some.anchor r.sound d.0 r.open_yet empty c.slots_until-count.result c.pass_slots.new.self c.args.now r.not_far r.not_back last.0 c.pass_slots.ensures last.1

pub returns-else-not-holds_nothing-clause-onward : goal.returns-else-not-holds_nothing-clause-onward
returns-else-not-holds_nothing-clause-onward g c =
    let r : IsAtReading c.args.self.now c.self.inside.next_media c.args.now = reading _ c.args.self.now c.self.inside.next_media c.args.now c.self.view_is c.self.invariant c.requires in
    let now_is = to_z-of_z w64 c.args.now c.ranges.now in
    let is : anchor_due c.args.self.now c.args.now ≡ Some c.in-Some.anchor = sym (ap (anchor_due c.args.self.now) now_is) ∙ sym c.anchor_due.ensures ∙ c.in-Some.is in
    let d = due c.args.self.now c.args.now c.in-Some.anchor is in
    let count : c.slots_until-count.result ≡ next_number c.args.self.now.spec c.in-Some.anchor c.args.now - c.args.self.now.base = c.slots_until-count.ensures ∙ ap (λ z. next_number c.args.self.now.spec c.in-Some.anchor z - c.args.self.now.base) now_is in
    let last = some_due c.args.self.now c.self.inside.next_media c.in-Some.anchor r.sound d.0 r.open_yet c.args.now c.slots_until-count.result d.1 count in
    let nothing : holds_nothing c.args.self.now ≡ true = sym c.holds_nothing.ensures ∙ c.if-not-holds_nothing.false in
    let empty : IsEmpty c.args.self.now.held = nothing_held c.args.self.now c.self.inside.next_media c.in-Some.anchor r.sound d.0 r.open_yet nothing in
    let t = passed_time c.args.self.now c.self.inside.next_media c.in-Some.anchor r.sound d.0 r.open_yet empty c.slots_until-count.result c.pass_slots.new.self c.args.now last.0 c.pass_slots.ensures last.1 in
    t.0

pub returns-else-not-holds_nothing-clause-can : goal.returns-else-not-holds_nothing-clause-can
returns-else-not-holds_nothing-clause-can g c =
    let r : IsAtReading c.args.self.now c.self.inside.next_media c.args.now = reading _ c.args.self.now c.self.inside.next_media c.args.now c.self.view_is c.self.invariant c.requires in
    let now_is = to_z-of_z w64 c.args.now c.ranges.now in
    let is : anchor_due c.args.self.now c.args.now ≡ Some c.in-Some.anchor = sym (ap (anchor_due c.args.self.now) now_is) ∙ sym c.anchor_due.ensures ∙ c.in-Some.is in
    let d = due c.args.self.now c.args.now c.in-Some.anchor is in
    let count : c.slots_until-count.result ≡ next_number c.args.self.now.spec c.in-Some.anchor c.args.now - c.args.self.now.base = c.slots_until-count.ensures ∙ ap (λ z. next_number c.args.self.now.spec c.in-Some.anchor z - c.args.self.now.base) now_is in
    let last = some_due c.args.self.now c.self.inside.next_media c.in-Some.anchor r.sound d.0 r.open_yet c.args.now c.slots_until-count.result d.1 count in
    let nothing : holds_nothing c.args.self.now ≡ true = sym c.holds_nothing.ensures ∙ c.if-not-holds_nothing.false in
    let empty : IsEmpty c.args.self.now.held = nothing_held c.args.self.now c.self.inside.next_media c.in-Some.anchor r.sound d.0 r.open_yet nothing in
    let t = passed_time c.args.self.now c.self.inside.next_media c.in-Some.anchor r.sound d.0 r.open_yet empty c.slots_until-count.result c.pass_slots.new.self c.args.now last.0 c.pass_slots.ensures last.1 in
    still_no_fault c.pass_slots.new.self.time c.pass_slots.new.self.closed c.args.now t.1 r.not_far (ap (λ (m : MergeState). m.closed) c.pass_slots.ensures.changed ∙ r.open_yet)

pub returns-in-None-clause-value : goal.returns-in-None-clause-value
returns-in-None-clause-value g c =
    let r : IsAtReading c.args.self.now c.self.inside.next_media c.args.now = reading _ c.args.self.now c.self.inside.next_media c.args.now c.self.view_is c.self.invariant c.requires in
    let is : anchor_due c.args.self.now c.args.now ≡ None = sym (ap (anchor_due c.args.self.now) (to_z-of_z w64 c.args.now c.ranges.now)) ∙ sym c.anchor_due.ensures ∙ c.in-None.is in
    none_lost_early c.args.self.now c.self.inside.next_media c.args.now r.sound r.open_yet is

pub returns-in-None-clause-stands : goal.returns-in-None-clause-stands
returns-in-None-clause-stands g c =
    let r : IsAtReading c.args.self.now c.self.inside.next_media c.args.now = reading _ c.args.self.now c.self.inside.next_media c.args.now c.self.view_is c.self.invariant c.requires in
    loses_none c.args.self.now c.self.inside.next_media c.args.now r.sound r.open_yet r.not_back r.not_far
