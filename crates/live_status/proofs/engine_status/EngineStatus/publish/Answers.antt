use Rattle.std.proofs.Common.{◌≡◌, ℤ, List, length, replicate, sym, ap, subst, ◌∙◌, to_z, of_z, w64, rules}
use Rattle.arrayvec.specs.ArrayVec.{ArrayVec}
use Rattle.std.proofs.lemmas.Int.{to_z-of_z}
use Rattle.std.specs.List.{refill}
use Rattle.rtp_stats.specs.declared.copy_tracker.CopyTracker.{CopyTracker}
use Rattle.status_page.specs.declared.snapshot.ChannelState.{ChannelState}
use Rattle.status_page.specs.declared.snapshot.Snapshot.{Snapshot}
use Rattle.status_page.specs.declared.snapshot.StreamState.{StreamState}
use Rattle.live_status.specs.Each.{AreEach}
use Rattle.live_status.specs.Outputs.{blank_output}
use Rattle.live_status.specs.Publisher.{Shows}
use Rattle.live_status.specs.EngineStatus.{IsEngineOutput, FillsEngineStreamAt}
use Rattle.live_status.proofs.Each.{refilled}
use Rattle.live_status.specs.Health.{FillsSockets}
use Rattle.live_status.proofs.EngineStatusLemmas.{streams-filled, streams-kept}
use Rattle.live_status.proofs.engine_status.EngineStatus.publish.Goals as goal

pub returns-clause-shown : goal.returns-clause-shown
returns-clause-shown g c =
    let engine = c.args.engine.now in
    let publisher = c.args.self.now.publisher in
    let blank = c.blank_snapshot-snapshot.result in
    let streams = c.fill_streams.new.streams in
    let outputs = c.fill_engine_outputs.new.outputs in
    let filled : Snapshot = c.fill_health.new.snapshot in
    let trackers = c.args.self.now.trackers.items in
    let given = c.as_mut_slice-streams.result.now in
    let by_trackers : AreEach (FillsEngineStreamAt engine trackers) given streams = subst (λ (ts : List CopyTracker). AreEach (FillsEngineStreamAt engine ts) given streams) c.as_slice.ensures.value c.fill_streams.ensures in
    let sees : AreEach (FillsEngineStreamAt engine trackers) blank.streams.items streams = subst (λ (l : List StreamState). AreEach (FillsEngineStreamAt engine trackers) l streams) c.as_mut_slice-streams.ensures.value by_trackers in
    let heard : AreEach (IsEngineOutput engine) blank.outputs.items outputs = subst (λ (l : List ChannelState). AreEach (IsEngineOutput engine) l outputs) c.as_mut_slice.ensures.value c.fill_engine_outputs.ensures in
    let same : refill (length blank.streams.items) blank.streams.items streams ≡ streams = refilled blank.streams.items streams sees.length_is in
    let Says = g.H.HealthSource.says c.args.self.now.health in
    let kept : AreEach (FillsSockets Says) streams filled.streams.items = subst (λ (l : List StreamState). AreEach (FillsSockets Says) l filled.streams.items) same c.fill_health.ensures.streams in
    let all : filled.outputs.items ≡ outputs = ap (λ (o : ArrayVec ChannelState). o.items) c.fill_health.ensures.outputs ∙ refilled blank.outputs.items outputs heard.length_is in
    let time : to_z w64 (of_z w64 c.time.result) ≡ engine.time = to_z-of_z w64 c.time.result (search rules) ∙ c.time.ensures.value in (
      filled,
      record {
        streams = λ few. streams-kept Says engine trackers publisher.streams.items streams filled.streams.items
            (streams-filled engine trackers publisher.streams.items blank.streams.items streams (c.blank_snapshot-snapshot.ensures.streams few) sees) kept;
        outputs = subst (λ (l : List ChannelState). AreEach (IsEngineOutput engine) (replicate publisher.channels blank_output) l) (sym all)
            (subst (λ (l : List ChannelState). AreEach (IsEngineOutput engine) l outputs) c.blank_snapshot-snapshot.ensures.outputs heard);
      },
      c.fill_health.ensures.health,
      subst (λ (now : ℤ). Shows publisher.watches.items publisher.streams.items now c.args.has_ended filled publisher.page c.publish.new.self.page) time c.publish.ensures.shown,
    )
