use Rattle.std.proofs.lemmas.Grind.{elements}
use Rattle.std.proofs.Common.{◌≡◌, FitsSigned, Some, to_z, of_z, w64, rules, ap, subst, sym, ◌∙◌, arith}
use Rattle.std.proofs.lemmas.Int.{to_z-of_z}
use Rattle.rtp_stream.specs.Fate.{place_of}
use Rattle.rtp_stream.specs.Grid.{of_width}
use Rattle.rtp_stream.specs.PacketRef.{packet_of}
use Rattle.rtp_stream.specs.FollowTrack.{is_slip_by, width_by, track_heard}
use Rattle.rtp_stream.specs.Anchor.{is_source_wanted}
use Rattle.path_merge.specs.MergeState.{MergeState}
use Rattle.path_merge.specs.Steps.{epoch_media}
use Rattle.rtp_stream.specs.PathProbation.{is_complete, probation_at, probation_heard}
use Rattle.path_merge.proofs.HeardLemmas.{either_is, heard_step, opening_none, opening_some}
use Rattle.std.specs.Prelude.{◌&&◌}
use Rattle.path_merge.proofs.merge.Merge.note_arrival.Goals as goal

pub returns-then-is_either-clause-step : goal.returns-then-is_either-clause-step
returns-then-is_either-clause-step g c =
    let place : c.args.place.now ≡ place_of (of_width c.self.inside.spec (width_by c.self.inside.spec c.args.anchor (g.V.Window.base c.self.inside.window) c.self.inside.time c.self.inside.tracks)) c.args.anchor (g.V.Window.base c.self.inside.window) (packet_of c.args.packet.now) = subst (λ (m : MergeState). c.args.place.now ≡ place_of (of_width m.spec (width_by m.spec c.args.anchor m.base m.time m.tracks)) c.args.anchor m.base (packet_of c.args.packet.now)) (sym c.self.view_is) c.requires.place in
    let off = c.is_off_place-off.ensures (of_width c.self.inside.spec (width_by c.self.inside.spec c.args.anchor (g.V.Window.base c.self.inside.window) c.self.inside.time c.self.inside.tracks)) c.args.anchor (g.V.Window.base c.self.inside.window) (packet_of c.args.packet.now) place in
    let time_fits : FitsSigned w64 c.self.inside.time = search rules in
    let heard = c.update_track-slips.ensures.heard
    ∙ ap (λ t. track_heard c.self.inside.spec c.args.anchor c.base-next.result t c.self.inside.tracks c.args.path (packet_of c.args.packet.now)) (to_z-of_z w64 c.self.inside.time time_fits)
    ∙ ap (λ b. track_heard c.self.inside.spec c.args.anchor b c.self.inside.time c.self.inside.tracks c.args.path (packet_of c.args.packet.now)) c.base-next.ensures in
    rw (← c.self.view_is) (heard_step _ c.args.anchor c.args.path (packet_of c.args.packet.now) c.is_off_place-off.result c.update_probation-completes.new.probations c.update_track-slips.new.tracks off c.update_probation-completes.ensures.heard c.update_probation-completes.ensures.others heard c.update_track-slips.ensures.others)

pub returns-else-is_either-clause-step : goal.returns-else-is_either-clause-step
returns-else-is_either-clause-step g c =
    let place : c.args.place.now ≡ place_of (of_width c.self.inside.spec (width_by c.self.inside.spec c.args.anchor (g.V.Window.base c.self.inside.window) c.self.inside.time c.self.inside.tracks)) c.args.anchor (g.V.Window.base c.self.inside.window) (packet_of c.args.packet.now) = subst (λ (m : MergeState). c.args.place.now ≡ place_of (of_width m.spec (width_by m.spec c.args.anchor m.base m.time m.tracks)) c.args.anchor m.base (packet_of c.args.packet.now)) (sym c.self.view_is) c.requires.place in
    let off = c.is_off_place-off.ensures (of_width c.self.inside.spec (width_by c.self.inside.spec c.args.anchor (g.V.Window.base c.self.inside.window) c.self.inside.time c.self.inside.tracks)) c.args.anchor (g.V.Window.base c.self.inside.window) (packet_of c.args.packet.now) place in
    let time_fits : FitsSigned w64 c.self.inside.time = search rules in
    let heard = c.update_track-slips.ensures.heard
    ∙ ap (λ t. track_heard c.self.inside.spec c.args.anchor c.base-next.result t c.self.inside.tracks c.args.path (packet_of c.args.packet.now)) (to_z-of_z w64 c.self.inside.time time_fits)
    ∙ ap (λ b. track_heard c.self.inside.spec c.args.anchor b c.self.inside.time c.self.inside.tracks c.args.path (packet_of c.args.packet.now)) c.base-next.ensures in
    rw (← c.self.view_is) (heard_step _ c.args.anchor c.args.path (packet_of c.args.packet.now) c.is_off_place-off.result c.update_probation-completes.new.probations c.update_track-slips.new.tracks off c.update_probation-completes.ensures.heard c.update_probation-completes.ensures.others heard c.update_track-slips.ensures.others)

pub returns-then-is_either-clause-opening : goal.returns-then-is_either-clause-opening
returns-then-is_either-clause-opening g c =
    let off = c.is_off_place-off.ensures (of_width c.args.self.now.spec (width_by c.args.self.now.spec c.args.anchor c.args.self.now.base c.args.self.now.time c.args.self.now.tracks)) c.args.anchor c.args.self.now.base (packet_of c.args.packet.now) c.requires.place in
    let heard = subst (λ (m : MergeState). probation_at c.update_probation-completes.new.probations c.args.path ≡ probation_heard m.spec (probation_at m.probations c.args.path) c.is_off_place-off.result (packet_of c.args.packet.now)) c.self.view_is c.update_probation-completes.ensures.heard in
    let complete = subst (λ (m : MergeState). c.update_probation-completes.result ≡ (is_source_wanted m.spec.ssrc (packet_of c.args.packet.now).ssrc && is_complete (probation_at c.update_probation-completes.new.probations c.args.path))) c.self.view_is c.update_probation-completes.ensures.complete in
    let time_fits : FitsSigned w64 c.self.inside.time = search rules in
    let slip = subst (λ (m : MergeState). c.update_track-slips.result ≡ (is_source_wanted m.spec.ssrc (packet_of c.args.packet.now).ssrc && is_slip_by m.spec c.args.anchor m.base m.time m.tracks c.args.path (packet_of c.args.packet.now))) c.self.view_is (c.update_track-slips.ensures.slip
    ∙ ap (λ t. is_source_wanted c.self.inside.spec.ssrc (packet_of c.args.packet.now).ssrc && is_slip_by c.self.inside.spec c.args.anchor c.base-next.result t c.self.inside.tracks c.args.path (packet_of c.args.packet.now)) (to_z-of_z w64 c.self.inside.time time_fits)
    ∙ ap (λ b. is_source_wanted c.self.inside.spec.ssrc (packet_of c.args.packet.now).ssrc && is_slip_by c.self.inside.spec c.args.anchor b c.self.inside.time c.self.inside.tracks c.args.path (packet_of c.args.packet.now)) c.base-next.ensures) in
    let either = either_is c.args.self.now c.args.anchor c.args.path (packet_of c.args.packet.now) c.is_off_place-off.result c.update_probation-completes.result c.update_track-slips.result c.is_either.result c.update_probation-completes.new.probations off heard complete slip c.is_either.ensures in
    let is_a = ap (λ (m : MergeState). m.anchor) c.self.view_is ∙ c.requires.anchored in
    subst (λ (m : MergeState). c.media_of_epoch.result ≡ epoch_media m c.args.anchor (packet_of c.args.packet.now)) c.self.view_is (c.media_of_epoch.ensures c.args.anchor is_a)
    ∙ opening_some c.args.self.now c.args.anchor c.args.path (packet_of c.args.packet.now) c.is_either.result either c.if-is_either.true

pub returns-else-is_either-clause-opening : goal.returns-else-is_either-clause-opening
returns-else-is_either-clause-opening g c =
    let off = c.is_off_place-off.ensures (of_width c.args.self.now.spec (width_by c.args.self.now.spec c.args.anchor c.args.self.now.base c.args.self.now.time c.args.self.now.tracks)) c.args.anchor c.args.self.now.base (packet_of c.args.packet.now) c.requires.place in
    let heard = subst (λ (m : MergeState). probation_at c.update_probation-completes.new.probations c.args.path ≡ probation_heard m.spec (probation_at m.probations c.args.path) c.is_off_place-off.result (packet_of c.args.packet.now)) c.self.view_is c.update_probation-completes.ensures.heard in
    let complete = subst (λ (m : MergeState). c.update_probation-completes.result ≡ (is_source_wanted m.spec.ssrc (packet_of c.args.packet.now).ssrc && is_complete (probation_at c.update_probation-completes.new.probations c.args.path))) c.self.view_is c.update_probation-completes.ensures.complete in
    let time_fits : FitsSigned w64 c.self.inside.time = search rules in
    let slip = subst (λ (m : MergeState). c.update_track-slips.result ≡ (is_source_wanted m.spec.ssrc (packet_of c.args.packet.now).ssrc && is_slip_by m.spec c.args.anchor m.base m.time m.tracks c.args.path (packet_of c.args.packet.now))) c.self.view_is (c.update_track-slips.ensures.slip
    ∙ ap (λ t. is_source_wanted c.self.inside.spec.ssrc (packet_of c.args.packet.now).ssrc && is_slip_by c.self.inside.spec c.args.anchor c.base-next.result t c.self.inside.tracks c.args.path (packet_of c.args.packet.now)) (to_z-of_z w64 c.self.inside.time time_fits)
    ∙ ap (λ b. is_source_wanted c.self.inside.spec.ssrc (packet_of c.args.packet.now).ssrc && is_slip_by c.self.inside.spec c.args.anchor b c.self.inside.time c.self.inside.tracks c.args.path (packet_of c.args.packet.now)) c.base-next.ensures) in
    let either = either_is c.args.self.now c.args.anchor c.args.path (packet_of c.args.packet.now) c.is_off_place-off.result c.update_probation-completes.result c.update_track-slips.result c.is_either.result c.update_probation-completes.new.probations off heard complete slip c.is_either.ensures in
    opening_none c.args.self.now c.args.anchor c.args.path (packet_of c.args.packet.now) c.is_either.result either c.if-is_either.false

pub invariant_of-self : goal.invariant_of-self
invariant_of-self c = grind (arith, elements)

pub invariant_of-self-else-is_either : goal.invariant_of-self-else-is_either
invariant_of-self-else-is_either c = grind (arith, elements)
