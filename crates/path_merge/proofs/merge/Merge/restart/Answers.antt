use Rattle.std.proofs.lemmas.Grind.{elements}
use Rattle.std.proofs.Common.{◌≡◌, ◌^◌, ◌+◌, ◌<◌, true, to_z, of_z, w64, ap, sym, subst, ◌∙◌, arith}
use Rattle.rtp_stream.specs.PacketRef.{packet_of}
use Rattle.rtp_stream.specs.declared.anchor.Anchor.{Anchor}
use Rattle.path_merge.specs.MergeState.{MergeState}
use Rattle.rtp_stream.specs.StreamSpec.{Fits}
use Rattle.path_merge.specs.Window.{IsEmpty}
use Rattle.rtp_stream.specs.Anchor.{is_restart_in_reach, media_time_of, restart_media_time}
use Rattle.std.proofs.lemmas.Int.{to_z-of_z}
use Rattle.path_merge.proofs.SoundLemmas.{anchored_at}
use Rattle.path_merge.proofs.FirstLemmas.{first_put}
use Rattle.path_merge.proofs.AnewLemmas.{in_reach, made_by, restart_step, sound_restart}
use Rattle.path_merge.proofs.merge.Merge.restart.Goals as goal

pub begin_at-requires-clause-empty : goal.begin_at-requires-clause-empty
begin_at-requires-clause-empty g c = subst (λ (m : MergeState). IsEmpty m.held) (sym c.self.view_is) c.requires.nothing_held

pub invariant_of-self : goal.invariant_of-self
invariant_of-self g c =
    let is_a = ap (λ (m : MergeState). m.anchor) c.self.view_is ∙ c.requires.anchored in
    let open_yet = ap (λ (m : MergeState). m.closed) c.self.view_is ∙ c.requires.open_yet in
    let space = subst (λ (m : MergeState). m.counts.arrived < 2 ^ 62) (sym c.self.view_is) c.requires.space in
    let fits = subst (λ (m : MergeState). Fits m.spec (packet_of c.args.packet.now)) (sym c.self.view_is) c.requires.fits in
    let none_held = subst (λ (m : MergeState). IsEmpty m.held) (sym c.self.view_is) c.requires.nothing_held in
    let an = anchored_at _ c.self.inside.next_media c.self.inside.anchor c.args.anchor is_a c.self.invariant.anchored in
    let goes : is_restart_in_reach c.self.inside.spec c.self.inside.time (media_time_of c.self.inside.spec c.args.anchor (g.V.Window.base c.self.inside.window)) c.args.media ≡ true = subst (λ (m : MergeState). is_restart_in_reach m.spec m.time (media_time_of m.spec c.args.anchor m.base) c.args.media ≡ true) (sym c.self.view_is) c.requires.continues_media_time in
    let media_is : to_z w64 (of_z w64 c.args.media) ≡ c.args.media = to_z-of_z w64 c.args.media c.ranges.media in
    let there : is_restart_in_reach c.self.inside.spec c.self.inside.time c.self.inside.next_media (to_z w64 (of_z w64 c.args.media)) ≡ true = ap (λ z. is_restart_in_reach c.self.inside.spec c.self.inside.time z (to_z w64 (of_z w64 c.args.media))) an.media_is ∙ ap (is_restart_in_reach c.self.inside.spec c.self.inside.time (media_time_of c.self.inside.spec c.args.anchor (g.V.Window.base c.self.inside.window))) media_is ∙ goes in
    let number : c.following-next.result.number ≡ 65536 + (packet_of c.args.packet.now).seq = ap (λ (a : Anchor). a.number) c.following-next.ensures.value in
    let put = first_put (packet_of c.args.packet.now) c.following-next.result.number (g.V.Window.held c.begin_at.new.self) (g.V.Window.held c.put_ref.new.self) c.put_ref.result number c.begin_at.ensures.held c.put_ref.ensures.answer c.put_ref.ensures.held in
    sound_restart _ c.self.inside.next_media (to_z w64 (of_z w64 c.args.media)) c.args.path (packet_of c.args.packet.now) c.args.anchor c.following-next.result (g.V.Window.held c.begin_at.new.self) _ _ _ _ _ _ c.self.invariant is_a open_yet space fits c.following-next.ensures.seq c.following-next.ensures.timestamp none_held (in_reach c.self.inside.spec c.self.inside.time c.self.inside.next_media (to_z w64 (of_z w64 c.args.media)) there) c.following-next.ensures.value c.begin_at.ensures.held put (c.put_ref.ensures.base ∙ c.begin_at.ensures.base ∙ number) (c.put_ref.ensures.size ∙ c.begin_at.ensures.size) c.add_fate.ensures

pub returns : goal.returns
returns g c =
    let media_is : to_z w64 (of_z w64 c.args.media) ≡ c.args.media = to_z-of_z w64 c.args.media c.ranges.media in
    let media : c.args.media ≡ restart_media_time c.self.inside.spec.clock (packet_of c.args.packet.now).ts c.self.inside.time (media_time_of c.self.inside.spec c.args.anchor (g.V.Window.base c.self.inside.window)) = subst (λ (m : MergeState). c.args.media ≡ restart_media_time m.spec.clock (packet_of c.args.packet.now).ts m.time (media_time_of m.spec c.args.anchor m.base)) (sym c.self.view_is) c.requires.media in
    let number : c.following-next.result.number ≡ 65536 + (packet_of c.args.packet.now).seq = ap (λ (a : Anchor). a.number) c.following-next.ensures.value in
    let put = first_put (packet_of c.args.packet.now) c.following-next.result.number (g.V.Window.held c.begin_at.new.self) (g.V.Window.held c.put_ref.new.self) c.put_ref.result number c.begin_at.ensures.held c.put_ref.ensures.answer c.put_ref.ensures.held in
    let anchor = c.following-next.ensures.value ∙ ap (made_by (packet_of c.args.packet.now) (c.args.anchor.epoch + 1)) (media_is ∙ media) in
    rw (← c.self.view_is) (restart_step _ c.args.path (packet_of c.args.packet.now) c.args.anchor c.following-next.result (g.V.Window.held c.begin_at.new.self) _ _ _ _ c.new-self-inside.result c.new-self-inside-2.result anchor c.begin_at.ensures.held put (c.put_ref.ensures.base ∙ c.begin_at.ensures.base ∙ number) (c.put_ref.ensures.size ∙ c.begin_at.ensures.size) c.add_fate.ensures c.new-self-inside.ensures c.new-self-inside-2.ensures)

pub add_fate-requires : goal.add_fate-requires
add_fate-requires c = grind (arith, elements)

pub begin_at-requires-clause-small : goal.begin_at-requires-clause-small
begin_at-requires-clause-small c = grind (arith, elements)

pub put_ref-requires-clause-short : goal.put_ref-requires-clause-short
put_ref-requires-clause-short c = grind (arith, elements)
