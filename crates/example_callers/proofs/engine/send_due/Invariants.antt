use Rattle.std.proofs.Common.{◌≡◌, ◌⊎◌, ℕ, List, None, length}
use Rattle.path_merge.specs.Clock.{clock_fault_of}
use Rattle.studio_config.specs.Studio.{Studio}
use Rattle.studio_session.specs.Event.{TraceEvent}
use Rattle.studio_session.specs.Run.{blocks_left}
use Rattle.studio_engine.specs.Session.{HasSession, turned}
use Rattle.example_callers.specs.Engine.{HasSent}
use Rattle.example_callers.proofs.engine.send_due.Given as goal

-- the datagrams so far were sent; only before the first turn is it open whether the reading is refused
abbrev pub invariant-loop-len : goal.invariant-loop-len
invariant-loop-len g l = record {
  time : (l.engine.time ≡ l.fn.engine.time) ⊎ (l.engine.time ≡ l.now);
  closed : l.engine.closed ≡ l.fn.engine.closed;
  first : ((l.engine ≡ l.fn.engine) × (l.sink ≡ l.fn.sink)) ⊎ (clock_fault_of l.fn.engine.time l.fn.engine.closed l.now ≡ None);
  output : l.engine.mixer.packer.spec ≡ l.fn.engine.mixer.packer.spec;
  space : length l.out ≡ length l.fn.out;
  sent : (studio : Studio) (events : List TraceEvent) (datagrams : List (List ℕ)) → HasSession studio l.fn.engine events datagrams
      → HasSent studio l.engine (turned l.fn.engine.time l.engine.time events) datagrams (g.K.Sink.handed l.fn.sink) (g.K.Sink.handed l.sink);
}

abbrev pub decreases-loop-len : goal.decreases-loop-len
decreases-loop-len g l = blocks_left l.engine.mixer.packer
