use Rattle.live_status.specs.Health.{FillsSocket}
use Rattle.live_status.proofs.Each.{IsUpTo}
use Rattle.live_status.proofs.health.fill_path_sockets.Given as goal

abbrev pub invariant-loop-place : goal.invariant-loop-place
invariant-loop-place g l = IsUpTo (FillsSocket (g.H.HealthSource.says l.health) l.number) l.place l.initial.paths l.paths
