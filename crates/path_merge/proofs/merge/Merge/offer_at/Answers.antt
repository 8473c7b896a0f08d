use Rattle.std.proofs.lemmas.Grind.{elements}
use Rattle.std.proofs.Common.{◌≡◌, FitsSigned, to_z, of_z, w64, rules, ap, sym, subst, true, ◌∙◌, arith}
use Rattle.std.proofs.lemmas.Int.{to_z-of_z}
use Rattle.rtp_stream.specs.PacketRef.{packet_of}
use Rattle.rtp_stream.specs.Anchor.{is_restart_in_reach, media_time_of, restart_media_time}
use Rattle.path_merge.specs.MergeState.{IsSound, MergeState}
use Rattle.path_merge.specs.Steps.{IsHeardStep, IsPlaced, IsPutStep, IsRestartStep}
use Rattle.rtp_stream.specs.Fate.{place_of}
use Rattle.rtp_stream.specs.Grid.{of_width}
use Rattle.rtp_stream.specs.FollowTrack.{width_by}
use Rattle.path_merge.proofs.HeardLemmas.{width_few}
use Rattle.path_merge.specs.Window.{IsEmpty}
use Rattle.rtp_stream.specs.declared.fate.Fate.TheVariants.{Restarted}
use Rattle.path_merge.proofs.OpeningLemmas.{Opens, nothing_held, opening_is}
use Rattle.path_merge.proofs.AnewLemmas.{restart_heard}
use Rattle.path_merge.proofs.merge.Merge.offer_at.Goals as goal

pub restart-requires-clause-nothing_held : goal.restart-requires-clause-nothing_held
restart-requires-clause-nothing_held g c =
    let sound : IsSound c.args.self.now c.self.inside.next_media = subst (λ m. IsSound m c.self.inside.next_media) c.self.view_is c.self.invariant in
    let opens : Opens c.args.self.now c.args.anchor (packet_of c.args.packet.now) c.in-Some.media = opening_is c.args.self.now c.args.anchor c.args.path (packet_of c.args.packet.now) c.in-Some.media (sym c.in-Some.is ∙ c.note_arrival.ensures.opening) in
    subst (λ (m : MergeState). IsEmpty m.held) (sym c.note_arrival.ensures.step.changed) (nothing_held c.args.self.now c.self.inside.next_media c.args.anchor sound c.requires.anchored c.requires.open_yet opens.nothing)

pub restart-requires-clause-continues_media_time : goal.restart-requires-clause-continues_media_time
restart-requires-clause-continues_media_time g c =
    let opens : Opens c.args.self.now c.args.anchor (packet_of c.args.packet.now) c.in-Some.media = opening_is c.args.self.now c.args.anchor c.args.path (packet_of c.args.packet.now) c.in-Some.media (sym c.in-Some.is ∙ c.note_arrival.ensures.opening) in
    let media_fits : FitsSigned w64 c.in-Some.media = search rules in
    subst (λ (m : MergeState). is_restart_in_reach m.spec m.time (media_time_of m.spec c.args.anchor m.base) (to_z w64 (of_z w64 c.in-Some.media)) ≡ true) (sym c.note_arrival.ensures.step.changed) (ap (is_restart_in_reach c.args.self.now.spec c.args.self.now.time (media_time_of c.args.self.now.spec c.args.anchor c.args.self.now.base)) (to_z-of_z w64 c.in-Some.media media_fits) ∙ opens.continues_media_time)

pub restart-requires-clause-media : goal.restart-requires-clause-media
restart-requires-clause-media g c =
    let opens : Opens c.args.self.now c.args.anchor (packet_of c.args.packet.now) c.in-Some.media = opening_is c.args.self.now c.args.anchor c.args.path (packet_of c.args.packet.now) c.in-Some.media (sym c.in-Some.is ∙ c.note_arrival.ensures.opening) in
    let media_fits : FitsSigned w64 c.in-Some.media = search rules in
    subst (λ (m : MergeState). to_z w64 (of_z w64 c.in-Some.media) ≡ restart_media_time m.spec.clock (packet_of c.args.packet.now).ts m.time (media_time_of m.spec c.args.anchor m.base)) (sym c.note_arrival.ensures.step.changed) (to_z-of_z w64 c.in-Some.media media_fits ∙ opens.media_is)

pub returns-in-Some-clause-restart : goal.returns-in-Some-clause-restart
returns-in-Some-clause-restart g c = λ opens.
    restart_heard c.args.self.now c.note_arrival.new.self.probations c.note_arrival.new.self.tracks c.restart.new.self c.args.anchor c.args.path (packet_of c.args.packet.now) Restarted (subst (λ (m : MergeState). IsRestartStep m.spec m c.restart.new.self c.args.anchor c.args.path (packet_of c.args.packet.now) Restarted) c.note_arrival.ensures.step.changed c.restart.ensures)

pub put_or_refuse-requires-clause-place : goal.put_or_refuse-requires-clause-place
put_or_refuse-requires-clause-place g c =
    let placed : IsPlaced c.args.self.now.spec c.args.anchor c.args.self.now.base (packet_of c.args.packet.now) c.args.place = record { width = width_by c.args.self.now.spec c.args.anchor c.args.self.now.base c.args.self.now.time c.args.self.now.tracks; within = width_few c.args.self.now.spec c.args.anchor c.args.self.now.base c.args.self.now.time c.args.self.now.tracks; is = c.requires.place } in
    subst (λ (m : MergeState). IsPlaced m.spec c.args.anchor m.base (packet_of c.args.packet.now) c.args.place) (sym c.note_arrival.ensures.step.changed) placed

pub returns-in-None-clause-next : goal.returns-in-None-clause-next
returns-in-None-clause-next g c = λ stays.
    let changed = c.note_arrival.ensures.step.changed in
    let place : c.args.place ≡ place_of (of_width c.note_arrival.new.self.spec (width_by c.args.self.now.spec c.args.anchor c.args.self.now.base c.args.self.now.time c.args.self.now.tracks)) c.args.anchor c.note_arrival.new.self.base (packet_of c.args.packet.now) = subst (λ (m : MergeState). c.args.place ≡ place_of (of_width m.spec (width_by c.args.self.now.spec c.args.anchor c.args.self.now.base c.args.self.now.time c.args.self.now.tracks)) c.args.anchor m.base (packet_of c.args.packet.now)) (sym changed) c.requires.place in
    record {
      heard = c.note_arrival.new.self.probations;
      noted = c.note_arrival.new.self.tracks;
      hears = subst (λ (m : MergeState). IsHeardStep c.args.self.now m c.args.anchor c.args.path (packet_of c.args.packet.now)) changed c.note_arrival.ensures.step;
      puts = subst (λ (m : MergeState). IsPutStep m.spec (width_by c.args.self.now.spec c.args.anchor c.args.self.now.base c.args.self.now.time c.args.self.now.tracks) m c.put_or_refuse.new.self c.args.anchor c.args.path (packet_of c.args.packet.now) c.put_or_refuse.result) changed (c.put_or_refuse.ensures (width_by c.args.self.now.spec c.args.anchor c.args.self.now.base c.args.self.now.time c.args.self.now.tracks) place);
    }

pub restart-requires-clause-fits : goal.restart-requires-clause-fits
restart-requires-clause-fits c = grind (arith, elements)

pub put_or_refuse-requires-clause-fits : goal.put_or_refuse-requires-clause-fits
put_or_refuse-requires-clause-fits c = grind (arith, elements)

pub restart-requires-clause-space : goal.restart-requires-clause-space
restart-requires-clause-space c = grind (arith, elements)

pub restart-requires-clause-few_epochs : goal.restart-requires-clause-few_epochs
restart-requires-clause-few_epochs c = grind (arith, elements)

pub returns-in-Some-clause-next : goal.returns-in-Some-clause-next
returns-in-Some-clause-next c = grind (arith, elements)

pub put_or_refuse-requires-clause-space : goal.put_or_refuse-requires-clause-space
put_or_refuse-requires-clause-space c = grind (arith, elements)

pub returns-in-None-clause-restart : goal.returns-in-None-clause-restart
returns-in-None-clause-restart c = grind (arith, elements)
