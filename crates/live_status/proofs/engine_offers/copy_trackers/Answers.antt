use Rattle.std.proofs.lemmas.Grind.{elements}
use Rattle.std.proofs.Common.{◌+◌, List, length, sym, refl, subst, arith}
use Rattle.std.proofs.lemmas.Option.{slice_get_read}
use Rattle.rtp_stats.specs.declared.copy_tracker.CopyTracker.{CopyTracker}
use Rattle.live_status.specs.EngineOffers.{IsNewTracker}
use Rattle.live_status.proofs.Each.{IsBegun, begun-push}
use Rattle.live_status.proofs.engine_offers.copy_trackers.Goals as goal

pub loop-stream-preserved : goal.loop-stream-preserved
loop-stream-preserved c =
    let n = c.loop-stream.stream-index in
    let streams = c.args.streams.now in
    let stream = c.stream-item.result in
    let tracker = c.in_ok-new.field-0 in
    let at = slice_get_read streams (length streams) n stream refl c.loop-stream-test.true c.stream-item.is in
    subst (λ (items : List CopyTracker). IsBegun IsNewTracker (n + 1) streams items) (sym {A = List CopyTracker} c.in_ok-push.ensures.items) (begun-push IsNewTracker n streams c.loop-stream.trackers.items stream tracker c.loop-stream.invariant at (c.in_ok-new.ensures.tally, c.in_ok-new.ensures.known))

pub returns : goal.returns
returns c = grind (arith, elements)

pub loop-stream-init : goal.loop-stream-init
loop-stream-init c = grind (arith, elements)
