use Rattle.std.proofs.Common.{◌≡◌, ◌+◌, ◌/◌, ◌+ℤ◌, pos, ap, subst, arith, ◌∙◌}
use Rattle.std.proofs.lemmas.Int.{ints}
use Rattle.rtp_stream.specs.Anchor.{deadline_of}
use Rattle.path_merge.specs.MergeState.{IsSound, MergeState}
use Rattle.path_merge.proofs.SoundLemmas.{due_times}
use Rattle.path_merge.proofs.PassLostLemmas.{due_is_quotient}
use Rattle.path_merge.proofs.merge.Merge.slots_until.Goals as goal

pub overflow_sub-since : goal.overflow_sub-since
overflow_sub-since g c =
    let sound : IsSound c.args.self.now c.self.inside.next_media = subst (λ m. IsSound m c.self.inside.next_media) c.self.view_is c.self.invariant in
    let t = due_times c.args.self.now c.self.inside.next_media c.args.anchor sound c.requires.anchored c.requires.open_yet in
    let lat : c.latency.result ≡ c.args.self.now.spec.latency = c.latency.ensures.value ∙ ap (λ (m : MergeState). m.spec.latency) c.self.view_is in
    omega (arith, ints, t.media_low, t.media_high, t.deadline, t.small_latency, lat, c.from.ensures, c.requires.come, c.requires.not_far)

pub returns : goal.returns
returns g c =
    let sound : IsSound c.args.self.now c.self.inside.next_media = subst (λ m. IsSound m c.self.inside.next_media) c.self.view_is c.self.invariant in
    let t = due_times c.args.self.now c.self.inside.next_media c.args.anchor sound c.requires.anchored c.requires.open_yet in
    let lat : c.latency.result ≡ c.args.self.now.spec.latency = c.latency.ensures.value ∙ ap (λ (m : MergeState). m.spec.latency) c.self.view_is in
    let frames : c.from-2.result ≡ c.args.self.now.spec.frames = c.from-2.ensures ∙ c.frames.ensures.value ∙ ap (λ (m : MergeState). m.spec.frames) c.self.view_is in
    let apart : c.args.now ≡ deadline_of c.args.self.now.spec c.args.anchor c.args.self.now.base +ℤ pos c.unsigned_abs.result = omega (arith, ints, t.media_low, t.media_high, t.deadline, t.small_latency, lat, c.from.ensures, c.requires.come, c.requires.not_far, c.unsigned_abs.ensures.value) in
    ap (λ f. c.unsigned_abs.result / f + 1) frames ∙ due_is_quotient c.args.self.now c.self.inside.next_media c.args.anchor sound c.requires.anchored c.requires.open_yet c.args.now c.unsigned_abs.result apart
