use Rattle.std.proofs.Common.{Option, length, slice_index_or, sym, refl, subst, ◌∙◌, arith}
use Rattle.std.proofs.lemmas.Option.{slice_get_read}
use Rattle.rtp_stats.specs.declared.stats.StreamStats.{StreamStats}
use Rattle.rtp_stats.specs.declared.channel.stream.StreamStatsReceiver.{StreamStatsReceiver}
use Rattle.live_run.specs.LatestStats.{RefreshesStream}
use Rattle.live_run.proofs.LatestStatsLemmas.{refreshed-all, refreshed-next}
use Rattle.live_run.proofs.workers.latest_stats.refresh_streams.Goals as goal

pub loop-place-preserved : goal.loop-place-preserved
loop-place-preserved c =
    let n = c.loop-place.place in
    let receivers = c.loop-place.receivers in
    let stats = c.loop-place.stats in
    let to = c.loop-place.invariant in
    let receiver = c.index-receivers-place.result in
    let last = c.index-stats-place.result in
    let new_receiver = c.refresh_stream.new.receiver in
    let new_last = c.refresh_stream.new.stats in
    let test = c.loop-place-test.true in
    let bound = c.min-place-end.ensures in
    let as_receivers = to.receivers_are in
    let as_stats = to.places_are in
    let in_receivers = slice_get_read receivers (length receivers) n receiver refl (grind (arith, test, bound, as_receivers)) c.index-receivers-place.is in
    let in_stats = slice_get_read stats (length stats) n last refl (grind (arith, test, bound, as_stats)) c.index-stats-place.is in
    let refreshes : RefreshesStream receiver new_receiver last new_last = subst (λ (w : StreamStatsReceiver). RefreshesStream w new_receiver last new_last) (sym c.index-receivers-place.is)
    (subst (λ (l : Option StreamStats). RefreshesStream (slice_index_or receivers n receiver) new_receiver l new_last) (sym c.index-stats-place.is) c.refresh_stream.ensures) in
    refreshed-next RefreshesStream n c.args.receivers.now receivers c.args.stats.now stats receiver new_receiver last new_last to (grind (arith, test, bound, as_receivers)) (grind (arith, test, bound, as_stats))
    (sym (to.receivers_left n (omega arith)) ∙ in_receivers) (sym (to.places_left n (omega arith)) ∙ in_stats) refreshes

pub returns : goal.returns
returns c = refreshed-all RefreshesStream c.loop-place.place c.args.receivers.now c.loop-place.receivers c.args.stats.now c.loop-place.stats (let bound = c.min-place-end.ensures in let past = c.loop-place-test.false in omega (arith, bound, past)) c.loop-place.invariant
