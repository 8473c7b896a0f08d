use Rattle.live_status.specs.Copies.{IsTold}
use Rattle.live_status.proofs.Each.{IsUpTo}
use Rattle.live_status.proofs.snapshot_fill.fill_paths.Given as goal

abbrev pub invariant-loop-place : goal.invariant-loop-place
invariant-loop-place l = IsUpTo (IsTold l.stats.counts l.stats.paths) l.place l.initial.paths l.paths
