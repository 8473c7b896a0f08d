use Rattle.live_run.specs.LatestStats.{RefreshesStream}
use Rattle.live_run.proofs.LatestStatsLemmas.{AreRefreshedTo}
use Rattle.live_run.proofs.workers.latest_stats.refresh_streams.Given as goal

abbrev pub invariant-loop-place : goal.invariant-loop-place
invariant-loop-place l = AreRefreshedTo RefreshesStream l.place l.initial.receivers l.receivers l.initial.stats l.stats
