use Rattle.std.proofs.Common.{◌≡◌, ℕ, List, length}
use Rattle.studio_config.specs.Studio.{Studio}
use Rattle.studio_session.specs.Event.{TraceEvent}
use Rattle.studio_engine.specs.Session.{HasSession}
use Rattle.engine_run.specs.FeedFaults.{AllKeepFaults}
use Rattle.engine_run.specs.Intake.{TakesAll}
use Rattle.engine_run.proofs.intake.take_all.Given as goal

-- the datagrams of the streams so far were taken
abbrev pub invariant-loop-stream : goal.invariant-loop-stream
invariant-loop-stream g l = record {
  space : length l.buf ≡ 2048;
  takes : (studio : Studio) (events : List TraceEvent) (datagrams : List (List ℕ)) → HasSession studio l.fn.engine events datagrams
      → TakesAll g.F.Feed.told studio l.engine events datagrams l.fn.streams l.streams (g.T.RunObserver.heard l.fn.observer) (g.T.RunObserver.heard l.observer) l.stream;
  noted : g.T.RunObserver.noted l.observer ≡ g.T.RunObserver.noted l.fn.observer;
  faults : AllKeepFaults g.F.Feed.told l.fn.streams l.streams;
}
