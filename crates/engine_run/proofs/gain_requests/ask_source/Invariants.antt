use Rattle.std.proofs.Common.{◌≡◌, ℕ, List, [], length}
use Rattle.studio_config.specs.Studio.{Studio}
use Rattle.studio_session.specs.Event.{TraceEvent}
use Rattle.studio_engine.specs.Session.{HasSession}
use Rattle.engine_run.specs.GainRequests.{HasTakenChanges}
use Rattle.engine_run.specs.Observers.{HasNotedTaken, Hears}
use Rattle.engine_run.proofs.gain_requests.ask_source.Given as goal

-- the changes that were taken so far
abbrev pub invariant-loop : goal.invariant-loop
invariant-loop g l = record {
  space : length l.buffer ≡ 8192;
  stands : (studio : Studio) (events : List TraceEvent) (datagrams : List (List ℕ)) → HasSession studio l.fn.engine events datagrams
      → HasTakenChanges studio l.engine events datagrams (g.G.GainSource.taken l.fn.source) (g.G.GainSource.taken l.source);
  time : l.engine.time ≡ l.fn.engine.time;
  heard : Hears (g.T.RunObserver.heard l.fn.observer) [] (g.T.RunObserver.heard l.observer);
  noted : HasNotedTaken (g.G.GainSource.taken l.fn.source) (g.G.GainSource.taken l.source) (g.T.RunObserver.noted l.fn.observer) (g.T.RunObserver.noted l.observer);
}
