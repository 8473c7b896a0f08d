use Rattle.std.proofs.Common.{Option, length, slice_index_or, sym, refl, subst, ◌∙◌, arith}
use Rattle.std.proofs.lemmas.Option.{slice_get_read}
use Rattle.rtp_stream.specs.declared.stream_counts.PathCounts.{PathCounts}
use Rattle.rtp_stats.specs.declared.channel.path.PathCountsReceiver.{PathCountsReceiver}
use Rattle.live_run.specs.LatestStats.{RefreshesPath}
use Rattle.live_run.proofs.LatestStatsLemmas.{refreshed-all, refreshed-next}
use Rattle.live_run.proofs.workers.latest_stats.refresh_paths.Goals as goal

pub loop-place-preserved : goal.loop-place-preserved
loop-place-preserved c =
    let n = c.loop-place.place in
    let receivers = c.loop-place.receivers in
    let counts = c.loop-place.counts in
    let to = c.loop-place.invariant in
    let receiver = c.index-receivers-place.result in
    let last = c.index-counts-place.result in
    let new_receiver = c.refresh_path.new.receiver in
    let new_last = c.refresh_path.new.counts in
    let test = c.loop-place-test.true in
    let bound = c.min-place-end.ensures in
    let as_receivers = to.receivers_are in
    let as_counts = to.places_are in
    let in_receivers = slice_get_read receivers (length receivers) n receiver refl (grind (arith, test, bound, as_receivers)) c.index-receivers-place.is in
    let in_counts = slice_get_read counts (length counts) n last refl (grind (arith, test, bound, as_counts)) c.index-counts-place.is in
    let refreshes : RefreshesPath receiver new_receiver last new_last = subst (λ (w : PathCountsReceiver). RefreshesPath w new_receiver last new_last) (sym c.index-receivers-place.is)
    (subst (λ (l : Option PathCounts). RefreshesPath (slice_index_or receivers n receiver) new_receiver l new_last) (sym c.index-counts-place.is) c.refresh_path.ensures) in
    refreshed-next RefreshesPath n c.args.receivers.now receivers c.args.counts.now counts receiver new_receiver last new_last to (grind (arith, test, bound, as_receivers)) (grind (arith, test, bound, as_counts))
    (sym (to.receivers_left n (omega arith)) ∙ in_receivers) (sym (to.places_left n (omega arith)) ∙ in_counts) refreshes

pub returns : goal.returns
returns c = refreshed-all RefreshesPath c.loop-place.place c.args.receivers.now c.loop-place.receivers c.args.counts.now c.loop-place.counts (let bound = c.min-place-end.ensures in let past = c.loop-place-test.false in omega (arith, bound, past)) c.loop-place.invariant
