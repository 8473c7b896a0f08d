use Rattle.std.proofs.lemmas.Grind.{common_steps, elements}
use Rattle.std.proofs.Common.{◌≡◌, false, arith, ap, subst, sym, ◌∙◌, rules}
use Rattle.std.proofs.lemmas.Int.{ints}
use Rattle.rtp_stream.specs.PacketRef.{packet_of}
use Rattle.rtp_stream.specs.Probation.{is_off}
use Rattle.rtp_stream.specs.Follow.{is_following}
use Rattle.path_merge.specs.MergeState.{MergeState}
use Rattle.path_merge.specs.Steps.{opens_epoch}
use Rattle.path_merge.proofs.InStepLemmas.{in_step_stays, placed_in_step}
use Rattle.path_merge.proofs.SoundLemmas.{anchored_at, base_small, due_times, media_small}
use Rattle.path_merge.proofs.merge.Merge.offer_next.Goals as goal

pub place_of-requires-clause-high : goal.place_of-requires-clause-high
place_of-requires-clause-high g c =
    let is_a = ap (λ (m : MergeState). m.anchor) c.self.view_is ∙ c.requires.anchored in
    omega (arith, c.base-next.ensures, (base_small _ c.self.inside.next_media c.args.anchor c.self.invariant is_a).1)

pub place_of-requires-clause-media_low : goal.place_of-requires-clause-media_low
place_of-requires-clause-media_low g c =
    let is_a = ap (λ (m : MergeState). m.anchor) c.self.view_is ∙ c.requires.anchored in
    let t = media_small _ c.self.inside.next_media c.args.anchor c.self.invariant is_a in
    omega (arith, ints, t.1, t.2)

pub place_of-requires-clause-anchor_low : goal.place_of-requires-clause-anchor_low
place_of-requires-clause-anchor_low g c =
    let is_a = ap (λ (m : MergeState). m.anchor) c.self.view_is ∙ c.requires.anchored in
    omega (arith, ints, (anchored_at _ c.self.inside.next_media _ c.args.anchor is_a c.self.invariant.anchored).bounds.media_low)

pub place_of-requires-clause-media_high : goal.place_of-requires-clause-media_high
place_of-requires-clause-media_high g c =
    let is_a = ap (λ (m : MergeState). m.anchor) c.self.view_is ∙ c.requires.anchored in
    let open_yet = ap (λ (m : MergeState). m.closed) c.self.view_is ∙ c.requires.open_yet in
    let t = due_times _ c.self.inside.next_media c.args.anchor c.self.invariant is_a open_yet in
    omega (arith, ints, t.media_low, t.media_high)

pub place_of-requires-clause-low : goal.place_of-requires-clause-low
place_of-requires-clause-low g c = search rules

pub place_of-requires-clause-anchor_high : goal.place_of-requires-clause-anchor_high
place_of-requires-clause-anchor_high g c =
    let is_a = ap (λ (m : MergeState). m.anchor) c.self.view_is ∙ c.requires.anchored in
    omega (arith, ints, (anchored_at _ c.self.inside.next_media _ c.args.anchor is_a c.self.invariant.anchored).bounds.media_high)

pub returns-then-follows_sender-clause-next : goal.returns-then-follows_sender-clause-next
returns-then-follows_sender-clause-next g c = c.offer_judged.ensures.next

pub returns-in-Ok-clause-restart : goal.returns-in-Ok-clause-restart
returns-in-Ok-clause-restart g c = λ opens.
    let plain : is_following c.args.self.now.spec.clock ≡ false = sym (ap (λ (m : MergeState). is_following m.spec.clock) c.self.view_is) ∙ sym (ap is_following c.clock.ensures) ∙ sym c.follows_sender.ensures ∙ c.if-follows_sender.false in
    let here : is_off c.self.inside.spec c.args.anchor c.base-next.result (packet_of c.args.packet.now) ≡ false = placed_in_step c.self.inside.spec _ c.args.anchor c.base-next.result (packet_of c.args.packet.now) c.in-Ok.number (sym c.in-Ok.is ∙ c.place_of.ensures) in
    let on : is_off c.args.self.now.spec c.args.anchor c.args.self.now.base (packet_of c.args.packet.now) ≡ false = subst (λ (m : MergeState). is_off m.spec c.args.anchor m.base (packet_of c.args.packet.now) ≡ false) c.self.view_is (subst (λ b. is_off c.self.inside.spec c.args.anchor b (packet_of c.args.packet.now) ≡ false) c.base-next.ensures here) in
    absurd (let stays : opens_epoch c.args.self.now c.args.anchor c.args.path (packet_of c.args.packet.now) ≡ false = in_step_stays c.args.self.now c.args.anchor c.args.path (packet_of c.args.packet.now) plain on in cc)

pub returns-in-Err-clause-next : goal.returns-in-Err-clause-next
returns-in-Err-clause-next g c = c.offer_elsewhere.ensures.next c.args.anchor c.requires.anchored

pub returns-in-Err-clause-restart : goal.returns-in-Err-clause-restart
returns-in-Err-clause-restart c = grind (arith, elements)

pub place_of-requires-clause-media_is : goal.place_of-requires-clause-media_is
place_of-requires-clause-media_is c = grind (arith, common_steps)

pub offer_elsewhere-requires-clause-fits : goal.offer_elsewhere-requires-clause-fits
offer_elsewhere-requires-clause-fits c = omega arith

pub offer_in_time-requires-clause-fits : goal.offer_in_time-requires-clause-fits
offer_in_time-requires-clause-fits c = omega arith
