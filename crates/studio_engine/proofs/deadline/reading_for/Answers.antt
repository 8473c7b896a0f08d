use Rattle.std.specs.Prelude.{FitsSigned, unsigned_abs}
use Rattle.std.proofs.Common.{◌≡◌, ◌≤ℤ◌, ◌<ℤ◌, ◌+ℤ◌, ◌-ℤ◌, ◌%◌, pos, sym, ap, ◌∙◌, arith, rules, to_z, of_z, w64}
use Rattle.std.proofs.lemmas.Int.{ints, to_z-of_z}
use Rattle.rtp_stream.specs.declared.stream_spec.Stream.{Stream}
use Rattle.rtp_stream.specs.CountsFacts.{Tally}
use Rattle.path_merge.specs.Steps.{next_deadline_of}
use Rattle.studio_engine.proofs.DeadlineLemmas.{next_reading, saturated, slot_given, slot_reading}
use Rattle.studio_engine.proofs.deadline.reading_for.Goals as goal

pub returns-then-slot-due : goal.returns-then-slot-due
returns-then-slot-due c =
    let due = c.saturating_add-due.result in
    let slot = c.in-Some.slot in
    let fits : FitsSigned w64 due = search rules in
    let fits_slot : FitsSigned w64 slot = search rules in
    let fits_result : FitsSigned w64 c.slot_before.result = search rules in
    let due_is : to_z w64 (of_z w64 due) ≡ due = to_z-of_z w64 due fits in
    let slot_is : to_z w64 (of_z w64 slot) ≡ slot = to_z-of_z w64 slot fits_slot in
    let result_is : to_z w64 (of_z w64 c.slot_before.result) ≡ c.slot_before.result = to_z-of_z w64 c.slot_before.result fits_result in
    let end_is : to_z w64 (of_z w64 c.args.end) ≡ c.args.end = to_z-of_z w64 c.args.end c.ranges.end in
    let latency : c.latency.result ≡ c.args.cursor.now.spec.latency = c.latency.ensures.value ∙ ap (λ (s : Stream). s.latency) c.spec-spec.ensures in
    let frames : c.frames.result ≡ c.args.cursor.now.spec.frames = c.frames.ensures.value ∙ ap (λ (s : Stream). s.frames) c.spec-spec.ensures in
    let sum = saturated (to_z w64 (of_z w64 c.args.end) +ℤ to_z w64 (of_z w64 c.from.result)) (omega (arith, ints, c.from.ensures, c.latency.type_inv)) in
    let before : slot <ℤ due = omega (arith, ints, c.if-slot-due.true, due_is, slot_is) in
    let le : due ≤ℤ (c.args.end +ℤ pos c.args.cursor.now.spec.latency) = omega (arith, ints, c.saturating_add-due.ensures, sum, c.from.ensures, end_is, latency, c.latency.type_inv) in
    let some = c.frames.ensures.sound.some_frames in
    slot_reading (next_deadline_of c.args.cursor.now.merge) slot due (c.args.end +ℤ pos c.args.cursor.now.spec.latency) (to_z w64 (of_z w64 c.slot_before.result)) c.args.cursor.now.spec.frames _
    (sym c.next_deadline.ensures ∙ c.in-Some.is) (omega (arith, some, frames, c.frames.ensures.value)) before le
    (result_is ∙ c.slot_before.ensures
    ∙ ap (λ d. (d -ℤ pos 1) -ℤ pos (unsigned_abs ((d -ℤ pos 1) -ℤ to_z w64 (of_z w64 slot)) % c.frames.result)) due_is
    ∙ ap (λ s. (due -ℤ pos 1) -ℤ pos (unsigned_abs ((due -ℤ pos 1) -ℤ s) % c.frames.result)) slot_is
    ∙ ap (λ f. (due -ℤ pos 1) -ℤ pos (unsigned_abs ((due -ℤ pos 1) -ℤ slot) % f)) frames)

pub returns-then-counts-eq0-2 : goal.returns-then-counts-eq0-2
returns-then-counts-eq0-2 c =
    let due = c.saturating_add-due.result in
    let slot = c.in-Some.slot in
    let fits : FitsSigned w64 due = search rules in
    let fits_slot : FitsSigned w64 slot = search rules in
    let due_is : to_z w64 (of_z w64 due) ≡ due = to_z-of_z w64 due fits in
    let slot_is : to_z w64 (of_z w64 slot) ≡ slot = to_z-of_z w64 slot fits_slot in
    let end_is : to_z w64 (of_z w64 c.args.end) ≡ c.args.end = to_z-of_z w64 c.args.end c.ranges.end in
    let latency : c.latency.result ≡ c.args.cursor.now.spec.latency = c.latency.ensures.value ∙ ap (λ (s : Stream). s.latency) c.spec-spec.ensures in
    let sum = saturated (to_z w64 (of_z w64 c.args.end) +ℤ to_z w64 (of_z w64 c.from.result)) (omega (arith, ints, c.from.ensures, c.latency.type_inv)) in
    let le : to_z w64 (of_z w64 due) ≤ℤ slot = omega (arith, ints, c.if-slot-due.false, slot_is) in
    let silent : to_z w64 (of_z w64 due) ≤ℤ (c.args.end +ℤ pos c.args.cursor.now.spec.latency) = omega (arith, ints, due_is, c.saturating_add-due.ensures, sum, c.from.ensures, end_is, latency, c.latency.type_inv) in
    next_reading (next_deadline_of c.args.cursor.now.merge) slot (c.args.end +ℤ pos c.args.cursor.now.spec.latency) (to_z w64 (of_z w64 due)) c.args.cursor.now.spec.frames _
    (sym c.next_deadline.ensures ∙ c.in-Some.is) le (λ none. silent)

pub returns-else-counts-eq0 : goal.returns-else-counts-eq0
returns-else-counts-eq0 c =
    let slot = c.in-Some.slot in
    let fits_slot : FitsSigned w64 slot = search rules in
    let slot_is : to_z w64 (of_z w64 slot) ≡ slot = to_z-of_z w64 slot fits_slot in
    let got : c.counts-counts.result.got ≡ c.args.cursor.now.merge.counts.got = ap (λ (t : Tally). t.got) c.counts-counts.ensures in
    let lost : c.counts-counts.result.lost ≡ c.args.cursor.now.merge.counts.lost = ap (λ (t : Tally). t.lost) c.counts-counts.ensures in
    next_reading (next_deadline_of c.args.cursor.now.merge) slot (c.args.end +ℤ pos c.args.cursor.now.spec.latency) (to_z w64 (of_z w64 slot)) c.args.cursor.now.spec.frames _
    (sym c.next_deadline.ensures ∙ c.in-Some.is) (omega (arith, ints, slot_is)) (λ none. absurd (slot_given c.counts-counts.result.got c.counts-counts.result.lost c.else-counts-eq0.either (rw (got, lost) none)))
