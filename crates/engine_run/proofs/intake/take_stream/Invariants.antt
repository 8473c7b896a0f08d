use Rattle.std.proofs.Common.{◌≡◌, ℕ, List, length}
use Rattle.studio_config.specs.Studio.{Studio}
use Rattle.studio_session.specs.Event.{TraceEvent}
use Rattle.studio_engine.specs.Session.{HasSession}
use Rattle.engine_run.specs.FeedFaults.{StreamKeepsFaults}
use Rattle.engine_run.specs.Intake.{TakesStream}
use Rattle.engine_run.proofs.intake.take_stream.Given as goal

-- the datagrams of the feeds so far were taken
abbrev pub invariant-loop-number : goal.invariant-loop-number
invariant-loop-number g l = record {
  space : length l.buf ≡ 2048;
  takes : (studio : Studio) (events : List TraceEvent) (datagrams : List (List ℕ)) → HasSession studio l.fn.engine events datagrams
      → TakesStream g.F.Feed.told studio l.engine events datagrams l.stream l.fn.readers l.readers (g.T.RunObserver.heard l.fn.observer) (g.T.RunObserver.heard l.observer) l.number;
  noted : g.T.RunObserver.noted l.observer ≡ g.T.RunObserver.noted l.fn.observer;
  faults : StreamKeepsFaults g.F.Feed.told l.fn.readers l.readers;
}
