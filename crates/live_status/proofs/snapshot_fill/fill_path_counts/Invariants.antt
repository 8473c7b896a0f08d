use Rattle.live_status.proofs.Each.{IsUpTo}
use Rattle.live_status.specs.FilledStreams.{HasCounts}
use Rattle.live_status.proofs.snapshot_fill.fill_path_counts.Given as goal

abbrev pub invariant-loop-place : goal.invariant-loop-place
invariant-loop-place l = IsUpTo (HasCounts l.counts) l.place l.initial.paths l.paths
