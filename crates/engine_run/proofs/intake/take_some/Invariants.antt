use Rattle.std.proofs.Common.{◌≡◌, ℕ, List, length}
use Rattle.studio_config.specs.Studio.{Studio}
use Rattle.studio_session.specs.Event.{TraceEvent}
use Rattle.studio_engine.specs.Session.{HasSession}
use Rattle.engine_run.specs.FeedFaults.{ReaderKeepsFaults}
use Rattle.engine_run.specs.Intake.{Takes}
use Rattle.engine_run.proofs.intake.take_some.Given as goal

-- the results so far, each of which was a datagram
abbrev pub invariant-loop : goal.invariant-loop
invariant-loop g l = record {
  space : length l.buf ≡ 2048;
  takes : (studio : Studio) (events : List TraceEvent) (datagrams : List (List ℕ)) → HasSession studio l.fn.engine events datagrams
      → (t : Takes g.F.Feed.told studio l.engine events datagrams l.stream l.path l.fn.reader l.reader (g.T.RunObserver.heard l.fn.observer) (g.T.RunObserver.heard l.observer) l.counter) × (length t.given ≡ l.counter);
  noted : g.T.RunObserver.noted l.observer ≡ g.T.RunObserver.noted l.fn.observer;
  faults : ReaderKeepsFaults g.F.Feed.told l.fn.reader l.reader;
}
