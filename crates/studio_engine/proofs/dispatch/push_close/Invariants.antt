use Rattle.studio_session.specs.Event.{Closing}
use Rattle.studio_session.specs.PushedEvents.{AreHanded}
use Rattle.studio_engine.specs.Engine.{AreIdle}
use Rattle.studio_engine.proofs.dispatch.push_close.Given as goal

-- the streams so far took the close
abbrev pub invariant-loop-number : goal.invariant-loop-number
invariant-loop-number l = record {
  handed : AreHanded Closing l.fn.cursors l.cursors l.number;
  idle : AreIdle l.cursors;
}
