use Rattle.studio_session.specs.Event.{Tick}
use Rattle.studio_session.specs.PushedEvents.{AreHanded}
use Rattle.studio_engine.proofs.dispatch.push_tick.Given as goal

-- the streams so far took the reading
abbrev pub invariant-loop-number : goal.invariant-loop-number
invariant-loop-number l = AreHanded (Tick l.now) l.fn.cursors l.cursors l.number
