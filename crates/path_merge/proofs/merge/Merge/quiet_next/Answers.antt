use Rattle.std.proofs.lemmas.Grind.{elements}
use Rattle.std.proofs.Common.{◌≡◌, true, false, to_z, of_z, ◌-ℤ◌, pos, FitsSigned, w64, rules, arith, sym, ap, subst, ◌∙◌}
use Rattle.std.proofs.lemmas.Int.{ints}
use Rattle.path_merge.specs.MergeState.{MergeState}
use Rattle.rtp_stream.specs.Marks.{quiet_mark}
use Rattle.path_merge.specs.Steps.{is_quiet_due}
use Rattle.path_merge.proofs.AdvanceLemmas.{IsAtReading, no_slot_of}
use Rattle.path_merge.proofs.SoundLemmas.{quiet_due_is}
use Rattle.path_merge.proofs.NextMarkLemmas.{no_quiet_is, quiet_is, reading}
use Rattle.path_merge.proofs.merge.Merge.quiet_next.Goals as goal

pub quiet-requires : goal.quiet-requires
quiet-requires g c =
    let r : IsAtReading c.args.self.now c.self.inside.next_media c.args.now = reading _ c.args.self.now c.self.inside.next_media c.args.now c.self.view_is c.self.invariant c.requires in
    let value = c.latency.ensures.value in
    let small = c.latency.ensures.sound.small_latency in
    let low = r.sound.time_low in
    let back = r.not_back in
    let far = r.not_far in
    record { time = (omega (arith, ints, c.from.ensures, back, value, small, low, far), omega (arith, ints, c.from.ensures, back, value, small, low, far)) }

pub returns-then-is_silence_new : goal.returns-then-is_silence_new
returns-then-is_silence_new g c =
    let r : IsAtReading c.args.self.now c.self.inside.next_media c.args.now = reading _ c.args.self.now c.self.inside.next_media c.args.now c.self.view_is c.self.invariant c.requires in
    let quiet_fits : FitsSigned w64 c.self.inside.quiet = search rules in
    let value = c.latency.ensures.value in
    let latency = c.self.invariant.spec_ok.small_latency in
    let back = r.not_back in
    let from_0 = r.sound.time_low in
    let tells : is_quiet_due (no_slot_of c.args.self.now.counts) c.args.self.now.quiet (c.args.now -ℤ pos c.args.self.now.spec.latency) ≡ true = subst (λ (m : MergeState). is_quiet_due (no_slot_of m.counts) m.quiet (c.args.now -ℤ pos m.spec.latency) ≡ true) c.self.view_is (ap (λ b. is_quiet_due b c.self.inside.quiet (c.args.now -ℤ pos c.self.inside.spec.latency)) (sym c.is_slotless.ensures) ∙ quiet_due_is c.is_slotless.result _ (to_z w64 (of_z w64 c.self.inside.quiet)) c.self.inside.quiet (to_z w64 (of_z w64 (to_z w64 (of_z w64 c.args.now) -ℤ to_z w64 (of_z w64 c.from.result)))) (c.args.now -ℤ pos c.self.inside.spec.latency) c.is_silence_new.ensures (omega (arith, ints)) (omega (arith, ints, c.from.ensures, value, back, from_0)) ∙ c.if-is_silence_new.true) in
    let lat : c.latency.result ≡ c.args.self.now.spec.latency = value ∙ ap (λ (m : MergeState). m.spec.latency) c.self.view_is in
    quiet_is c.args.self.now c.args.now c.quiet.result (to_z w64 (of_z w64 (to_z w64 (of_z w64 c.args.now) -ℤ to_z w64 (of_z w64 c.from.result)))) tells
    (subst (λ (m : MergeState). c.quiet.result ≡ quiet_mark m.spec (to_z w64 (of_z w64 (to_z w64 (of_z w64 c.args.now) -ℤ to_z w64 (of_z w64 c.from.result))))) c.self.view_is (rw c.format.ensures.value at c.quiet.ensures))
    (omega (arith, ints, c.from.ensures, lat, back, from_0))

pub returns-else-is_silence_new : goal.returns-else-is_silence_new
returns-else-is_silence_new g c =
    let r : IsAtReading c.args.self.now c.self.inside.next_media c.args.now = reading _ c.args.self.now c.self.inside.next_media c.args.now c.self.view_is c.self.invariant c.requires in
    let quiet_fits : FitsSigned w64 c.self.inside.quiet = search rules in
    let value = c.latency.ensures.value in
    let latency = c.self.invariant.spec_ok.small_latency in
    let back = r.not_back in
    let from_0 = r.sound.time_low in
    no_quiet_is c.args.self.now c.args.now (subst (λ (m : MergeState). is_quiet_due (no_slot_of m.counts) m.quiet (c.args.now -ℤ pos m.spec.latency) ≡ false) c.self.view_is (ap (λ b. is_quiet_due b c.self.inside.quiet (c.args.now -ℤ pos c.self.inside.spec.latency)) (sym c.is_slotless.ensures) ∙ quiet_due_is c.is_slotless.result _ (to_z w64 (of_z w64 c.self.inside.quiet)) c.self.inside.quiet (to_z w64 (of_z w64 (to_z w64 (of_z w64 c.args.now) -ℤ to_z w64 (of_z w64 c.from.result)))) (c.args.now -ℤ pos c.self.inside.spec.latency) c.is_silence_new.ensures (omega (arith, ints)) (omega (arith, ints, c.from.ensures, value, back, from_0)) ∙ c.if-is_silence_new.false))

pub overflow_sub-until : goal.overflow_sub-until
overflow_sub-until c = grind (arith, elements)
