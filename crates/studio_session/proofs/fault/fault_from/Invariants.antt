use Rattle.std.proofs.Common.{◌≡◌, false, drop}
use Rattle.studio_session.specs.Fault.{session_fault_from}
use Rattle.studio_session.proofs.fault.fault_from.Given as goal

-- the first fault is that of the events that are left
abbrev pub invariant-loop-place : goal.invariant-loop-place
invariant-loop-place g l = session_fault_from l.streams 0 l.open_at false (g.E.EventSource.events l.source) ≡ session_fault_from l.streams l.place l.time l.closed (drop l.place (g.E.EventSource.events l.source))
