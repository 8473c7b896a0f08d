use Rattle.std.proofs.lemmas.Grind.{common_steps, elements}
use Rattle.std.proofs.Common.{◌≡◌, FitsSigned, Some, None, to_z, of_z, w64, false, true, arith, ap, sym, subst, ◌∙◌, rules}
use Rattle.std.proofs.lemmas.Int.{ints, to_z-of_z}
use Rattle.rtp_stream.specs.declared.anchor.Anchor.{Anchor}
use Rattle.rtp_stream.specs.PacketRef.{packet_of}
use Rattle.rtp_stream.specs.Fate.{place_of}
use Rattle.rtp_stream.specs.Grid.{of_width}
use Rattle.rtp_stream.specs.FollowTrack.{width_by}
use Rattle.path_merge.specs.MergeState.{MergeState}
use Rattle.path_merge.specs.Steps.{IsNextStep, IsRestartStep, opens_epoch}
use Rattle.path_merge.proofs.SoundLemmas.{anchored_at, base_small, due_times, media_small}
use Rattle.path_merge.proofs.merge.Merge.offer_elsewhere.Goals as goal

pub place_of-place-requires-clause-high : goal.place_of-place-requires-clause-high
place_of-place-requires-clause-high g c =
    let is_a = c.in-Some.is in
    omega (arith, c.base-next.ensures, (base_small _ c.self.inside.next_media c.in-Some.anchor c.self.invariant is_a).1)

pub place_of-place-requires-clause-media_low : goal.place_of-place-requires-clause-media_low
place_of-place-requires-clause-media_low g c =
    let is_a = c.in-Some.is in
    let t = media_small _ c.self.inside.next_media c.in-Some.anchor c.self.invariant is_a in
    omega (arith, ints, t.1, t.2)

pub place_of-place-requires-clause-anchor_low : goal.place_of-place-requires-clause-anchor_low
place_of-place-requires-clause-anchor_low g c =
    let is_a = c.in-Some.is in
    omega (arith, ints, (anchored_at _ c.self.inside.next_media _ c.in-Some.anchor is_a c.self.invariant.anchored).bounds.media_low)

pub place_of-place-requires-clause-media_high : goal.place_of-place-requires-clause-media_high
place_of-place-requires-clause-media_high g c =
    let is_a = c.in-Some.is in
    let open_yet = ap (λ (m : MergeState). m.closed) c.self.view_is ∙ c.requires.open_yet in
    let t = due_times _ c.self.inside.next_media c.in-Some.anchor c.self.invariant is_a open_yet in
    omega (arith, ints, t.media_low, t.media_high)

pub place_of-place-requires-clause-space : goal.place_of-place-requires-clause-space
place_of-place-requires-clause-space g c = omega (arith, c.width_of-width.ensures.few, c.self.invariant.spec_ok.narrow)

pub offer_at-requires-clause-place : goal.offer_at-requires-clause-place
offer_at-requires-clause-place g c =
    let time_fits : FitsSigned w64 c.self.inside.time = search rules in
    c.place_of-place.ensures ∙ ap (λ r. place_of (of_width c.self.inside.spec r) c.in-Some.anchor c.base-next.result (packet_of c.args.packet.now)) c.width_of-width.ensures.value
    ∙ ap (λ t. place_of (of_width c.self.inside.spec (width_by c.self.inside.spec c.in-Some.anchor c.base-next.result t c.self.inside.tracks)) c.in-Some.anchor c.base-next.result (packet_of c.args.packet.now)) (to_z-of_z w64 c.self.inside.time time_fits)
    ∙ ap (λ b. place_of (of_width c.self.inside.spec (width_by c.self.inside.spec c.in-Some.anchor b c.self.inside.time c.self.inside.tracks)) c.in-Some.anchor b (packet_of c.args.packet.now)) c.base-next.ensures ∙ ap (λ (m : MergeState). place_of (of_width m.spec (width_by m.spec c.in-Some.anchor m.base m.time m.tracks)) c.in-Some.anchor m.base (packet_of c.args.packet.now)) c.self.view_is

pub returns-in-Some-clause-next : goal.returns-in-Some-clause-next
returns-in-Some-clause-next g c = λ a is.
    let here : c.args.self.now.anchor ≡ Some c.in-Some.anchor = ap (λ (m : MergeState). m.anchor) (sym c.self.view_is) ∙ c.in-Some.is in
    let both : Some c.in-Some.anchor ≡ Some a = sym here ∙ is in
    let same : c.in-Some.anchor ≡ a = cc in
    subst (λ (x : Anchor). opens_epoch c.args.self.now x c.args.path (packet_of c.args.packet.now) ≡ false → IsNextStep c.args.self.now.spec c.args.self.now c.offer_at.new.self x c.args.path (packet_of c.args.packet.now) c.offer_at.result) same c.offer_at.ensures.next

pub returns-in-Some-clause-restart : goal.returns-in-Some-clause-restart
returns-in-Some-clause-restart g c = λ a is.
    let here : c.args.self.now.anchor ≡ Some c.in-Some.anchor = ap (λ (m : MergeState). m.anchor) (sym c.self.view_is) ∙ c.in-Some.is in
    let both : Some c.in-Some.anchor ≡ Some a = sym here ∙ is in
    let same : c.in-Some.anchor ≡ a = cc in
    subst (λ (x : Anchor). opens_epoch c.args.self.now x c.args.path (packet_of c.args.packet.now) ≡ true → IsRestartStep c.args.self.now.spec c.args.self.now c.offer_at.new.self x c.args.path (packet_of c.args.packet.now) c.offer_at.result) same c.offer_at.ensures.restart

pub returns-in-None-clause-next : goal.returns-in-None-clause-next
returns-in-None-clause-next g c = λ a is. absurd (let none : None ≡ Some a = sym (ap (λ (m : MergeState). m.anchor) (sym c.self.view_is) ∙ c.in-None.is) ∙ is in cc)

pub returns-in-None-clause-restart : goal.returns-in-None-clause-restart
returns-in-None-clause-restart g c = λ a is. absurd (let none : None ≡ Some a = sym (ap (λ (m : MergeState). m.anchor) (sym c.self.view_is) ∙ c.in-None.is) ∙ is in cc)

pub offer_at-requires-clause-anchored : goal.offer_at-requires-clause-anchored
offer_at-requires-clause-anchored g c = search rules

pub offer_at-requires-clause-open_yet : goal.offer_at-requires-clause-open_yet
offer_at-requires-clause-open_yet g c = search rules

pub offer_at-requires-clause-space : goal.offer_at-requires-clause-space
offer_at-requires-clause-space g c = search rules

pub offer_at-requires-clause-fits : goal.offer_at-requires-clause-fits
offer_at-requires-clause-fits g c = search rules

pub place_of-place-requires-clause-anchor_high : goal.place_of-place-requires-clause-anchor_high
place_of-place-requires-clause-anchor_high g c =
    let is_a = c.in-Some.is in
    omega (arith, ints, (anchored_at _ c.self.inside.next_media _ c.in-Some.anchor is_a c.self.invariant.anchored).bounds.media_high)

pub place_of-place-requires-clause-media_is : goal.place_of-place-requires-clause-media_is
place_of-place-requires-clause-media_is c = grind (arith, common_steps)

pub place_of-place-requires-clause-low : goal.place_of-place-requires-clause-low
place_of-place-requires-clause-low c = grind (arith, elements)
