use Rattle.live_run.specs.LatestStats.{RefreshesPath}
use Rattle.live_run.proofs.LatestStatsLemmas.{AreRefreshedTo}
use Rattle.live_run.proofs.workers.latest_stats.refresh_paths.Given as goal

abbrev pub invariant-loop-place : goal.invariant-loop-place
invariant-loop-place l = AreRefreshedTo RefreshesPath l.place l.initial.receivers l.receivers l.initial.counts l.counts
