use Rattle.std.proofs.Common.{to_z, of_z, ◌-ℤ◌, pos, FitsSigned, w64, rules, arith, ap, sym, ◌∙◌}
use Rattle.std.proofs.lemmas.Int.{ints}
use Rattle.path_merge.specs.MergeState.{MergeState}
use Rattle.path_merge.specs.Steps.{is_quiet_due}
use Rattle.path_merge.proofs.SoundLemmas.{quiet_due_is, sound_time_is}
use Rattle.path_merge.proofs.NextMarkLemmas.{time_passes, time_passes_quiet}
use Rattle.path_merge.proofs.merge.Merge.pass_time.Goals as goal

pub invariant_of-self : goal.invariant_of-self
invariant_of-self g c =
    sound_time_is _ c.self.inside.next_media _ c.args.now _ c.self.invariant
    (ap (λ (m : MergeState). m.closed) c.self.view_is ∙ c.requires.open_yet)
    (rw (← c.self.view_is) at c.requires.not_back)
    c.requires.not_far
    (rw (← c.self.view_is) at c.requires.no_deadline)
    (omega (arith, ints))

pub invariant_of-self-else-is_silence_new : goal.invariant_of-self-else-is_silence_new
invariant_of-self-else-is_silence_new g c =
    sound_time_is _ c.self.inside.next_media _ c.args.now _ c.self.invariant
    (ap (λ (m : MergeState). m.closed) c.self.view_is ∙ c.requires.open_yet)
    (rw (← c.self.view_is) at c.requires.not_back)
    c.requires.not_far
    (rw (← c.self.view_is) at c.requires.no_deadline)
    (omega (arith, ints))

pub returns-then-is_silence_new : goal.returns-then-is_silence_new
returns-then-is_silence_new g c =
    let quiet_fits : FitsSigned w64 c.self.inside.quiet = search rules in
    let value = c.latency.ensures.value in
    let latency = c.self.invariant.spec_ok.small_latency in
    let back = rw (← c.self.view_is) at c.requires.not_back in
    let from_0 = c.self.invariant.time_low in
    rw (← c.self.view_is) (time_passes_quiet _ c.args.now _ _
    (ap (λ b. is_quiet_due b c.self.inside.quiet (c.args.now -ℤ pos c.self.inside.spec.latency)) (sym c.is_slotless-no_slot.ensures) ∙ quiet_due_is c.is_slotless-no_slot.result _ (to_z w64 (of_z w64 c.self.inside.quiet)) c.self.inside.quiet (to_z w64 (of_z w64 (to_z w64 (of_z w64 c.args.now) -ℤ to_z w64 (of_z w64 c.from.result)))) (c.args.now -ℤ pos c.self.inside.spec.latency) c.is_silence_new.ensures (omega (arith, ints)) (omega (arith, ints, c.from.ensures, value, back, from_0)) ∙ c.if-is_silence_new.true)
    (omega (arith, ints))
    (omega (arith, ints, c.from.ensures, value, back, from_0)))

pub returns-else-is_silence_new : goal.returns-else-is_silence_new
returns-else-is_silence_new g c =
    let quiet_fits : FitsSigned w64 c.self.inside.quiet = search rules in
    let value = c.latency.ensures.value in
    let latency = c.self.invariant.spec_ok.small_latency in
    let back = rw (← c.self.view_is) at c.requires.not_back in
    let from_0 = c.self.invariant.time_low in
    rw (← c.self.view_is) (time_passes _ c.args.now _
    (ap (λ b. is_quiet_due b c.self.inside.quiet (c.args.now -ℤ pos c.self.inside.spec.latency)) (sym c.is_slotless-no_slot.ensures) ∙ quiet_due_is c.is_slotless-no_slot.result _ (to_z w64 (of_z w64 c.self.inside.quiet)) c.self.inside.quiet (to_z w64 (of_z w64 (to_z w64 (of_z w64 c.args.now) -ℤ to_z w64 (of_z w64 c.from.result)))) (c.args.now -ℤ pos c.self.inside.spec.latency) c.is_silence_new.ensures (omega (arith, ints)) (omega (arith, ints, c.from.ensures, value, back, from_0)) ∙ c.if-is_silence_new.false)
    (omega (arith, ints)))
