use Rattle.std.proofs.Common.{◌≡◌, ℕ, Ok, false, arith, sym, subst}
use Rattle.rtp_stream.specs.PacketRef.{packet_of}
use Rattle.rtp_stream.specs.Fate.{place_of}
use Rattle.rtp_stream.specs.Grid.{of_width}
use Rattle.rtp_stream.specs.FollowTrack.{width_by}
use Rattle.rtp_stream.specs.Probation.{is_off}
use Rattle.path_merge.specs.MergeState.{MergeState}
use Rattle.path_merge.specs.Steps.{IsHeardStep, IsPlaced, IsPutStep}
use Rattle.path_merge.proofs.InStepLemmas.{placed_in_step, width_whole}
use Rattle.path_merge.proofs.merge.Merge.offer_in_time.Goals as goal

pub put_or_refuse-requires-clause-place : goal.put_or_refuse-requires-clause-place
put_or_refuse-requires-clause-place g c =
    let on : is_off c.args.self.now.spec c.args.anchor c.args.self.now.base (packet_of c.args.packet.now) ≡ false = placed_in_step c.args.self.now.spec c.args.self.now.spec.window c.args.anchor c.args.self.now.base (packet_of c.args.packet.now) c.args.number c.requires.place in
    let step : IsHeardStep c.args.self.now c.note_in_step.new.self c.args.anchor c.args.path (packet_of c.args.packet.now) = c.note_in_step.ensures c.args.anchor c.requires.plain on in
    let placed : IsPlaced c.args.self.now.spec c.args.anchor c.args.self.now.base (packet_of c.args.packet.now) (Ok c.args.number) = record { width = c.args.self.now.spec.window; within = omega arith; is = c.requires.place } in
    subst (λ (m : MergeState). IsPlaced m.spec c.args.anchor m.base (packet_of c.args.packet.now) (Ok c.args.number)) (sym step.changed) placed

pub returns : goal.returns
returns g c =
    let on : is_off c.args.self.now.spec c.args.anchor c.args.self.now.base (packet_of c.args.packet.now) ≡ false = placed_in_step c.args.self.now.spec c.args.self.now.spec.window c.args.anchor c.args.self.now.base (packet_of c.args.packet.now) c.args.number c.requires.place in
    let step : IsHeardStep c.args.self.now c.note_in_step.new.self c.args.anchor c.args.path (packet_of c.args.packet.now) = c.note_in_step.ensures c.args.anchor c.requires.plain on in
    let whole : width_by c.args.self.now.spec c.args.anchor c.args.self.now.base c.args.self.now.time c.args.self.now.tracks ≡ c.args.self.now.spec.window = width_whole c.args.self.now c.args.anchor c.args.path (packet_of c.args.packet.now) c.requires.plain in
    let place : Ok c.args.number ≡ place_of (of_width c.note_in_step.new.self.spec c.args.self.now.spec.window) c.args.anchor c.note_in_step.new.self.base (packet_of c.args.packet.now) = subst (λ (m : MergeState). Ok c.args.number ≡ place_of (of_width m.spec c.args.self.now.spec.window) c.args.anchor m.base (packet_of c.args.packet.now)) (sym step.changed) c.requires.place in
    record {
      heard = c.note_in_step.new.self.probations;
      noted = c.note_in_step.new.self.tracks;
      hears = subst (λ (m : MergeState). IsHeardStep c.args.self.now m c.args.anchor c.args.path (packet_of c.args.packet.now)) step.changed step;
      puts = subst (λ (r : ℕ). IsPutStep c.args.self.now.spec r (record c.args.self.now { probations = c.note_in_step.new.self.probations; tracks = c.note_in_step.new.self.tracks }) c.put_or_refuse.new.self c.args.anchor c.args.path (packet_of c.args.packet.now) c.put_or_refuse.result) (sym whole)
          (subst (λ (m : MergeState). IsPutStep m.spec c.args.self.now.spec.window m c.put_or_refuse.new.self c.args.anchor c.args.path (packet_of c.args.packet.now) c.put_or_refuse.result) step.changed (c.put_or_refuse.ensures c.args.self.now.spec.window place));
    }
