use Rattle.live_status.specs.Health.{FillsSockets}
use Rattle.live_status.proofs.Each.{IsUpTo}
use Rattle.live_status.proofs.health.fill_sockets.Given as goal

abbrev pub invariant-loop-number : goal.invariant-loop-number
invariant-loop-number g l = IsUpTo (FillsSockets (g.H.HealthSource.says l.health)) l.number l.initial.streams l.streams
