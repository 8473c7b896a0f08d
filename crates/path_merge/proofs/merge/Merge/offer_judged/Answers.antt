use Rattle.std.proofs.lemmas.Grind.{common_steps}
use Rattle.std.proofs.Common.{FitsSigned, to_z, of_z, w64, arith, ap, sym, ◌∙◌, rules}
use Rattle.std.proofs.lemmas.Int.{ints, to_z-of_z}
use Rattle.rtp_stream.specs.PacketRef.{packet_of}
use Rattle.rtp_stream.specs.Fate.{place_of}
use Rattle.rtp_stream.specs.Grid.{of_width}
use Rattle.rtp_stream.specs.FollowTrack.{width_by}
use Rattle.path_merge.specs.MergeState.{MergeState}
use Rattle.path_merge.proofs.SoundLemmas.{anchored_at, base_small, due_times, media_small}
use Rattle.path_merge.proofs.merge.Merge.offer_judged.Goals as goal

pub place_of-requires-clause-high : goal.place_of-requires-clause-high
place_of-requires-clause-high g c =
    let is_a = ap (λ (m : MergeState). m.anchor) c.self.view_is ∙ c.requires.anchored in
    omega (arith, c.base-next.ensures, (base_small _ c.self.inside.next_media c.args.anchor c.self.invariant is_a).1)

pub place_of-requires-clause-media_low : goal.place_of-requires-clause-media_low
place_of-requires-clause-media_low g c =
    let is_a = ap (λ (m : MergeState). m.anchor) c.self.view_is ∙ c.requires.anchored in
    let t = media_small _ c.self.inside.next_media c.args.anchor c.self.invariant is_a in
    omega (arith, ints, t.1, t.2)

pub place_of-requires-clause-anchor_low : goal.place_of-requires-clause-anchor_low
place_of-requires-clause-anchor_low g c =
    let is_a = ap (λ (m : MergeState). m.anchor) c.self.view_is ∙ c.requires.anchored in
    omega (arith, ints, (anchored_at _ c.self.inside.next_media _ c.args.anchor is_a c.self.invariant.anchored).bounds.media_low)

pub place_of-requires-clause-media_high : goal.place_of-requires-clause-media_high
place_of-requires-clause-media_high g c =
    let is_a = ap (λ (m : MergeState). m.anchor) c.self.view_is ∙ c.requires.anchored in
    let open_yet = ap (λ (m : MergeState). m.closed) c.self.view_is ∙ c.requires.open_yet in
    let t = due_times _ c.self.inside.next_media c.args.anchor c.self.invariant is_a open_yet in
    omega (arith, ints, t.media_low, t.media_high)

pub place_of-requires-clause-space : goal.place_of-requires-clause-space
place_of-requires-clause-space g c = omega (arith, c.width_of-width.ensures.few, c.self.invariant.spec_ok.narrow)

pub offer_at-requires-clause-place : goal.offer_at-requires-clause-place
offer_at-requires-clause-place g c =
    let time_fits : FitsSigned w64 c.self.inside.time = search rules in
    sym (c.in-Ok.is) ∙ c.place_of.ensures ∙ ap (λ r. place_of (of_width c.self.inside.spec r) c.args.anchor c.base-next.result (packet_of c.args.packet.now)) c.width_of-width.ensures.value
    ∙ ap (λ t. place_of (of_width c.self.inside.spec (width_by c.self.inside.spec c.args.anchor c.base-next.result t c.self.inside.tracks)) c.args.anchor c.base-next.result (packet_of c.args.packet.now)) (to_z-of_z w64 c.self.inside.time time_fits)
    ∙ ap (λ b. place_of (of_width c.self.inside.spec (width_by c.self.inside.spec c.args.anchor b c.self.inside.time c.self.inside.tracks)) c.args.anchor b (packet_of c.args.packet.now)) c.base-next.ensures ∙ ap (λ (m : MergeState). place_of (of_width m.spec (width_by m.spec c.args.anchor m.base m.time m.tracks)) c.args.anchor m.base (packet_of c.args.packet.now)) c.self.view_is

pub returns-in-Err-clause-next : goal.returns-in-Err-clause-next
returns-in-Err-clause-next g c = c.offer_elsewhere.ensures.next c.args.anchor c.requires.anchored

pub returns-in-Err-clause-restart : goal.returns-in-Err-clause-restart
returns-in-Err-clause-restart g c = c.offer_elsewhere.ensures.restart c.args.anchor c.requires.anchored

pub place_of-requires-clause-low : goal.place_of-requires-clause-low
place_of-requires-clause-low g c = search rules

pub offer_at-requires-clause-anchored : goal.offer_at-requires-clause-anchored
offer_at-requires-clause-anchored g c = search rules

pub offer_at-requires-clause-open_yet : goal.offer_at-requires-clause-open_yet
offer_at-requires-clause-open_yet g c = search rules

pub offer_at-requires-clause-space : goal.offer_at-requires-clause-space
offer_at-requires-clause-space g c = search rules

pub offer_at-requires-clause-fits : goal.offer_at-requires-clause-fits
offer_at-requires-clause-fits g c = search rules

pub offer_elsewhere-requires-clause-open_yet : goal.offer_elsewhere-requires-clause-open_yet
offer_elsewhere-requires-clause-open_yet g c = search rules

pub offer_elsewhere-requires-clause-space : goal.offer_elsewhere-requires-clause-space
offer_elsewhere-requires-clause-space g c = search rules

pub offer_elsewhere-requires-clause-fits : goal.offer_elsewhere-requires-clause-fits
offer_elsewhere-requires-clause-fits g c = search rules

pub returns-in-Ok-clause-next : goal.returns-in-Ok-clause-next
returns-in-Ok-clause-next g c = search rules

pub returns-in-Ok-clause-restart : goal.returns-in-Ok-clause-restart
returns-in-Ok-clause-restart g c = search rules

pub place_of-requires-clause-anchor_high : goal.place_of-requires-clause-anchor_high
place_of-requires-clause-anchor_high g c =
    let is_a = ap (λ (m : MergeState). m.anchor) c.self.view_is ∙ c.requires.anchored in
    omega (arith, ints, (anchored_at _ c.self.inside.next_media _ c.args.anchor is_a c.self.invariant.anchored).bounds.media_high)

pub place_of-requires-clause-media_is : goal.place_of-requires-clause-media_is
place_of-requires-clause-media_is c = grind (arith, common_steps)
