use Rattle.live_status.specs.Watch.{ShowsPath}
use Rattle.live_status.proofs.Each.{IsUpTo}
use Rattle.live_status.proofs.reception_watch.stream_watch.show_paths.Given as goal

abbrev pub invariant-loop-place : goal.invariant-loop-place
invariant-loop-place l = IsUpTo (ShowsPath l.has_ended l.others l.watches) l.place l.initial.paths l.paths
