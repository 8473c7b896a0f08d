use Rattle.std.proofs.Common.{◌≡◌, ◌^◌, ◌<◌, Ok, Err, arith, ap, sym, subst, ◌∙◌}
use Rattle.rtp_stream.specs.PacketRef.{packet_of}
use Rattle.path_merge.specs.MergeState.{MergeState}
use Rattle.rtp_stream.specs.StreamSpec.{Fits}
use Rattle.rtp_stream.specs.Fate.{place_of}
use Rattle.rtp_stream.specs.Grid.{of_width}
use Rattle.path_merge.specs.Steps.{IsPlaced}
use Rattle.rtp_stream.specs.CountsFacts.{with_fate}
use Rattle.rtp_stream.specs.Counts.{tally_of}
use Rattle.path_merge.proofs.PlaceLemmas.{has_no_place, has_place}
use Rattle.path_merge.proofs.PutLemmas.{put_step_fault, put_step_put, sound_put}
use Rattle.path_merge.proofs.FirstLemmas.{sound_refused}
use Rattle.path_merge.proofs.merge.Merge.put_or_refuse.Goals as goal

pub invariant_of-self : goal.invariant_of-self
invariant_of-self g c =
    let is_a = ap (λ (m : MergeState). m.anchor) c.self.view_is ∙ c.requires.anchored in
    let open_yet = ap (λ (m : MergeState). m.closed) c.self.view_is ∙ c.requires.open_yet in
    let space = subst (λ (m : MergeState). m.counts.arrived < 2 ^ 62) (sym c.self.view_is) c.requires.space in
    let placed : IsPlaced c.self.inside.spec c.args.anchor (g.V.Window.base c.self.inside.window) (packet_of c.args.packet.now) c.args.place = subst (λ (m : MergeState). IsPlaced m.spec c.args.anchor m.base (packet_of c.args.packet.now) c.args.place) (sym c.self.view_is) c.requires.place in
    let place : place_of (of_width c.self.inside.spec placed.width) c.args.anchor (g.V.Window.base c.self.inside.window) (packet_of c.args.packet.now) ≡ Ok c.in-Ok.number = sym placed.is ∙ c.in-Ok.is in
    let here = has_place (of_width c.self.inside.spec placed.width) c.args.anchor (g.V.Window.base c.self.inside.window) (packet_of c.args.packet.now) c.in-Ok.number place in
    sound_put _ c.self.inside.next_media c.args.anchor c.args.path (packet_of c.args.packet.now) _ _ _ c.in-Ok.number _ c.put_ref.result _ c.self.invariant is_a open_yet space
    (subst (λ (m : MergeState). Fits m.spec (packet_of c.args.packet.now)) (sym c.self.view_is) c.requires.fits)
    here.low (omega (arith, here.high, placed.within)) c.put_ref.ensures.answer c.put_ref.ensures.held c.put_ref.ensures.base c.put_ref.ensures.size
    (c.add_fate.ensures ∙ ap (with_fate (tally_of c.self.inside.counts) c.args.path) c.fate_of_put-fate.ensures)

pub invariant_of-self-in-Err : goal.invariant_of-self-in-Err
invariant_of-self-in-Err g c =
    let space = subst (λ (m : MergeState). m.counts.arrived < 2 ^ 62) (sym c.self.view_is) c.requires.space in
    let placed : IsPlaced c.self.inside.spec c.args.anchor (g.V.Window.base c.self.inside.window) (packet_of c.args.packet.now) c.args.place = subst (λ (m : MergeState). IsPlaced m.spec c.args.anchor m.base (packet_of c.args.packet.now) c.args.place) (sym c.self.view_is) c.requires.place in
    let place : place_of (of_width c.self.inside.spec placed.width) c.args.anchor (g.V.Window.base c.self.inside.window) (packet_of c.args.packet.now) ≡ Err c.in-Err.fault = sym placed.is ∙ c.in-Err.is in
    sound_refused _ c.self.inside.next_media c.args.path c.in-Err.fault _ _ c.self.invariant space (has_no_place (of_width c.self.inside.spec placed.width) c.args.anchor (g.V.Window.base c.self.inside.window) (packet_of c.args.packet.now) c.in-Err.fault place).untaken c.add_fate-in-Err.ensures

pub returns-in-Ok : goal.returns-in-Ok
returns-in-Ok g c = λ size is.
    let place : place_of (of_width c.self.inside.spec size) c.args.anchor (g.V.Window.base c.self.inside.window) (packet_of c.args.packet.now) ≡ Ok c.in-Ok.number = sym (subst (λ (m : MergeState). c.args.place ≡ place_of (of_width m.spec size) c.args.anchor m.base (packet_of c.args.packet.now)) (sym c.self.view_is) is) ∙ c.in-Ok.is in
    rw (← c.self.view_is) (put_step_put _ size c.args.anchor c.args.path (packet_of c.args.packet.now) _ _ _ c.in-Ok.number _ c.put_ref.result c.fate_of_put-fate.result place c.fate_of_put-fate.ensures c.put_ref.ensures.answer c.put_ref.ensures.held c.put_ref.ensures.base c.put_ref.ensures.size c.add_fate.ensures)

pub returns-in-Err : goal.returns-in-Err
returns-in-Err g c = λ size is.
    let place : place_of (of_width c.self.inside.spec size) c.args.anchor (g.V.Window.base c.self.inside.window) (packet_of c.args.packet.now) ≡ Err c.in-Err.fault = sym (subst (λ (m : MergeState). c.args.place ≡ place_of (of_width m.spec size) c.args.anchor m.base (packet_of c.args.packet.now)) (sym c.self.view_is) is) ∙ c.in-Err.is in
    rw (← c.self.view_is) (put_step_fault _ size c.args.anchor c.args.path (packet_of c.args.packet.now) c.in-Err.fault _ place c.add_fate-in-Err.ensures)
