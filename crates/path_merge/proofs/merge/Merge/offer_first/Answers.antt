use Rattle.std.proofs.lemmas.Grind.{elements}
use Rattle.std.proofs.Common.{◌≡◌, ℤ, ◌^◌, ◌+◌, ◌<◌, true, false, to_z, of_z, w64, FitsSigned, rules, arith, ap, sym, subst, refl, ◌∙◌}
use Rattle.std.proofs.lemmas.Int.{ints}
use Rattle.rtp_stream.specs.PacketRef.{packet_of}
use Rattle.rtp_stream.specs.declared.anchor.Anchor.{Anchor}
use Rattle.rtp_stream.specs.declared.packet.Packet.{Packet}
use Rattle.rtp_stream.specs.StreamSpec.{Fits}
use Rattle.path_merge.specs.MergeState.{MergeState}
use Rattle.rtp_stream.specs.Anchor.{anchor_from, first_media_time, can_anchor}
use Rattle.rtp_stream.specs.Counts.{is_taken_fate}
use Rattle.rtp_stream.specs.Fate.{first_fate}
use Rattle.path_merge.proofs.FirstLemmas.{taken-can_anchor, first_put, first_step_refused, first_step_taken, sound_first, sound_refused}
use Rattle.path_merge.proofs.merge.Merge.offer_first.Goals as goal

abbrev first_anchor : Packet → ℤ → Anchor
first_anchor packet media = record { epoch = 0; number = 65536 + packet.seq; timestamp = packet.ts; media = media; source = packet.ssrc }

pub invariant_of-self : goal.invariant_of-self
invariant_of-self g c =
    let is_none = ap (λ (m : MergeState). m.anchor) c.self.view_is ∙ c.requires.unanchored in
    let open_yet = ap (λ (m : MergeState). m.closed) c.self.view_is ∙ c.requires.open_yet in
    let space = subst (λ (m : MergeState). m.counts.arrived < 2 ^ 62) (sym c.self.view_is) c.requires.space in
    let time_fits : FitsSigned w64 c.self.inside.time = search rules in
    let time_is : to_z w64 (of_z w64 c.self.inside.time) ≡ c.self.inside.time = omega (arith, ints) in
    let media : c.media_of_first-media.result ≡ first_media_time c.self.inside.spec.clock (packet_of c.args.packet.now).ts (to_z w64 (of_z w64 c.self.inside.time)) = c.media_of_first-media.ensures ∙ ap (λ k. first_media_time k (packet_of c.args.packet.now).ts (to_z w64 (of_z w64 c.self.inside.time))) c.clock.ensures in
    let media_is : c.media_of_first-media.result ≡ first_media_time c.self.inside.spec.clock (packet_of c.args.packet.now).ts c.self.inside.time = media ∙ ap (first_media_time c.self.inside.spec.clock (packet_of c.args.packet.now).ts) time_is in
    let answer : c.fate_of_first-fate.result ≡ first_fate c.self.inside.spec c.self.inside.time (packet_of c.args.packet.now) = c.fate_of_first-fate.ensures (packet_of c.args.packet.now) refl (omega (arith, ints, media)) ∙ ap (λ t. first_fate c.self.inside.spec t (packet_of c.args.packet.now)) time_is in
    let untaken : is_taken_fate c.fate_of_first-fate.result ≡ false = sym c.is_taken.ensures ∙ c.if-not-is_taken.true in
    sound_refused _ c.self.inside.next_media c.args.path c.fate_of_first-fate.result _ _ c.self.invariant space untaken c.add_fate.ensures

pub returns-then-not-is_taken-clause-step : goal.returns-then-not-is_taken-clause-step
returns-then-not-is_taken-clause-step g c =
    let is_none = ap (λ (m : MergeState). m.anchor) c.self.view_is ∙ c.requires.unanchored in
    let open_yet = ap (λ (m : MergeState). m.closed) c.self.view_is ∙ c.requires.open_yet in
    let space = subst (λ (m : MergeState). m.counts.arrived < 2 ^ 62) (sym c.self.view_is) c.requires.space in
    let time_fits : FitsSigned w64 c.self.inside.time = search rules in
    let time_is : to_z w64 (of_z w64 c.self.inside.time) ≡ c.self.inside.time = omega (arith, ints) in
    let media : c.media_of_first-media.result ≡ first_media_time c.self.inside.spec.clock (packet_of c.args.packet.now).ts (to_z w64 (of_z w64 c.self.inside.time)) = c.media_of_first-media.ensures ∙ ap (λ k. first_media_time k (packet_of c.args.packet.now).ts (to_z w64 (of_z w64 c.self.inside.time))) c.clock.ensures in
    let media_is : c.media_of_first-media.result ≡ first_media_time c.self.inside.spec.clock (packet_of c.args.packet.now).ts c.self.inside.time = media ∙ ap (first_media_time c.self.inside.spec.clock (packet_of c.args.packet.now).ts) time_is in
    let answer : c.fate_of_first-fate.result ≡ first_fate c.self.inside.spec c.self.inside.time (packet_of c.args.packet.now) = c.fate_of_first-fate.ensures (packet_of c.args.packet.now) refl (omega (arith, ints, media)) ∙ ap (λ t. first_fate c.self.inside.spec t (packet_of c.args.packet.now)) time_is in
    let untaken : is_taken_fate c.fate_of_first-fate.result ≡ false = sym c.is_taken.ensures ∙ c.if-not-is_taken.true in
    rw (← c.self.view_is) (first_step_refused _ c.self.inside.next_media c.args.path (packet_of c.args.packet.now) c.fate_of_first-fate.result _ c.self.invariant is_none answer untaken c.add_fate.ensures)

pub invariant_of-self-2 : goal.invariant_of-self-2
invariant_of-self-2 g c =
    let is_none = ap (λ (m : MergeState). m.anchor) c.self.view_is ∙ c.requires.unanchored in
    let open_yet = ap (λ (m : MergeState). m.closed) c.self.view_is ∙ c.requires.open_yet in
    let space = subst (λ (m : MergeState). m.counts.arrived < 2 ^ 62) (sym c.self.view_is) c.requires.space in
    let time_fits : FitsSigned w64 c.self.inside.time = search rules in
    let time_is : to_z w64 (of_z w64 c.self.inside.time) ≡ c.self.inside.time = omega (arith, ints) in
    let media : c.media_of_first-media.result ≡ first_media_time c.self.inside.spec.clock (packet_of c.args.packet.now).ts (to_z w64 (of_z w64 c.self.inside.time)) = c.media_of_first-media.ensures ∙ ap (λ k. first_media_time k (packet_of c.args.packet.now).ts (to_z w64 (of_z w64 c.self.inside.time))) c.clock.ensures in
    let media_is : c.media_of_first-media.result ≡ first_media_time c.self.inside.spec.clock (packet_of c.args.packet.now).ts c.self.inside.time = media ∙ ap (first_media_time c.self.inside.spec.clock (packet_of c.args.packet.now).ts) time_is in
    let answer : c.fate_of_first-fate.result ≡ first_fate c.self.inside.spec c.self.inside.time (packet_of c.args.packet.now) = c.fate_of_first-fate.ensures (packet_of c.args.packet.now) refl (omega (arith, ints, media)) ∙ ap (λ t. first_fate c.self.inside.spec t (packet_of c.args.packet.now)) time_is in
    let taken : is_taken_fate (first_fate c.self.inside.spec c.self.inside.time (packet_of c.args.packet.now)) ≡ true = ap is_taken_fate (sym answer) ∙ sym c.is_taken.ensures ∙ c.if-not-is_taken.false in
    let can : can_anchor c.self.inside.spec c.self.inside.time (packet_of c.args.packet.now) ≡ true = sym (taken-can_anchor c.self.inside.spec c.self.inside.time (packet_of c.args.packet.now)) ∙ taken in
    let there : to_z w64 (of_z w64 c.media_of_first-media.result) ≡ first_media_time c.self.inside.spec.clock (packet_of c.args.packet.now).ts c.self.inside.time = omega (arith, ints, media_is) in
    let anchor : c.first-anchor.result ≡ anchor_from c.self.inside.spec c.self.inside.time (packet_of c.args.packet.now) = c.first-anchor.ensures.value ∙ ap (λ z. first_anchor (packet_of c.args.packet.now) z) there in
    let number : c.first-anchor.result.number ≡ 65536 + (packet_of c.args.packet.now).seq = ap (λ (a : Anchor). a.number) anchor in
    let put = first_put (packet_of c.args.packet.now) c.first-anchor.result.number (g.V.Window.held c.begin_at.new.self) (g.V.Window.held c.put_ref.new.self) c.put_ref.result number c.begin_at.ensures.held c.put_ref.ensures.answer c.put_ref.ensures.held in
    let base : g.V.Window.base c.put_ref.new.self ≡ 65536 + (packet_of c.args.packet.now).seq = c.put_ref.ensures.base ∙ c.begin_at.ensures.base ∙ number in
    let media_field : c.first-anchor.result.media ≡ to_z w64 (of_z w64 c.media_of_first-media.result) = ap (λ (a : Anchor). a.media) c.first-anchor.ensures.value in
    sound_first _ c.self.inside.next_media _ c.args.path (packet_of c.args.packet.now) c.first-anchor.result (g.V.Window.held c.begin_at.new.self) _ _ _ _ c.self.invariant is_none open_yet space
    (subst (λ (m : MergeState). Fits m.spec (packet_of c.args.packet.now)) (sym c.self.view_is) c.requires.fits)
    c.first-anchor.ensures.seq c.first-anchor.ensures.timestamp can anchor c.begin_at.ensures.held put base (c.put_ref.ensures.size ∙ c.begin_at.ensures.size) c.add_fate-2.ensures (sym media_field)

pub returns-clause-step : goal.returns-clause-step
returns-clause-step g c =
    let is_none = ap (λ (m : MergeState). m.anchor) c.self.view_is ∙ c.requires.unanchored in
    let open_yet = ap (λ (m : MergeState). m.closed) c.self.view_is ∙ c.requires.open_yet in
    let space = subst (λ (m : MergeState). m.counts.arrived < 2 ^ 62) (sym c.self.view_is) c.requires.space in
    let time_fits : FitsSigned w64 c.self.inside.time = search rules in
    let time_is : to_z w64 (of_z w64 c.self.inside.time) ≡ c.self.inside.time = omega (arith, ints) in
    let media : c.media_of_first-media.result ≡ first_media_time c.self.inside.spec.clock (packet_of c.args.packet.now).ts (to_z w64 (of_z w64 c.self.inside.time)) = c.media_of_first-media.ensures ∙ ap (λ k. first_media_time k (packet_of c.args.packet.now).ts (to_z w64 (of_z w64 c.self.inside.time))) c.clock.ensures in
    let media_is : c.media_of_first-media.result ≡ first_media_time c.self.inside.spec.clock (packet_of c.args.packet.now).ts c.self.inside.time = media ∙ ap (first_media_time c.self.inside.spec.clock (packet_of c.args.packet.now).ts) time_is in
    let answer : c.fate_of_first-fate.result ≡ first_fate c.self.inside.spec c.self.inside.time (packet_of c.args.packet.now) = c.fate_of_first-fate.ensures (packet_of c.args.packet.now) refl (omega (arith, ints, media)) ∙ ap (λ t. first_fate c.self.inside.spec t (packet_of c.args.packet.now)) time_is in
    let taken : is_taken_fate (first_fate c.self.inside.spec c.self.inside.time (packet_of c.args.packet.now)) ≡ true = ap is_taken_fate (sym answer) ∙ sym c.is_taken.ensures ∙ c.if-not-is_taken.false in
    let can : can_anchor c.self.inside.spec c.self.inside.time (packet_of c.args.packet.now) ≡ true = sym (taken-can_anchor c.self.inside.spec c.self.inside.time (packet_of c.args.packet.now)) ∙ taken in
    let there : to_z w64 (of_z w64 c.media_of_first-media.result) ≡ first_media_time c.self.inside.spec.clock (packet_of c.args.packet.now).ts c.self.inside.time = omega (arith, ints, media_is) in
    let anchor : c.first-anchor.result ≡ anchor_from c.self.inside.spec c.self.inside.time (packet_of c.args.packet.now) = c.first-anchor.ensures.value ∙ ap (λ z. first_anchor (packet_of c.args.packet.now) z) there in
    let number : c.first-anchor.result.number ≡ 65536 + (packet_of c.args.packet.now).seq = ap (λ (a : Anchor). a.number) anchor in
    let put = first_put (packet_of c.args.packet.now) c.first-anchor.result.number (g.V.Window.held c.begin_at.new.self) (g.V.Window.held c.put_ref.new.self) c.put_ref.result number c.begin_at.ensures.held c.put_ref.ensures.answer c.put_ref.ensures.held in
    let base : g.V.Window.base c.put_ref.new.self ≡ 65536 + (packet_of c.args.packet.now).seq = c.put_ref.ensures.base ∙ c.begin_at.ensures.base ∙ number in
    rw (← c.self.view_is) (first_step_taken _ c.args.path (packet_of c.args.packet.now) c.first-anchor.result (g.V.Window.held c.begin_at.new.self) _ _ _ _ taken anchor c.begin_at.ensures.held put base (c.put_ref.ensures.size ∙ c.begin_at.ensures.size) c.add_fate-2.ensures)

pub begin_at-requires-clause-small : goal.begin_at-requires-clause-small
begin_at-requires-clause-small c = grind (arith, elements)

pub put_ref-requires-clause-short : goal.put_ref-requires-clause-short
put_ref-requires-clause-short c = grind (arith, elements)

pub add_fate-requires : goal.add_fate-requires
add_fate-requires c = grind (arith, elements)

pub add_fate-requires-2 : goal.add_fate-requires-2
add_fate-requires-2 c = grind (arith, elements)

pub media_of_first-media-requires-clause-high : goal.media_of_first-media-requires-clause-high
media_of_first-media-requires-clause-high c = grind (arith, elements)
