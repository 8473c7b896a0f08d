use Rattle.std.proofs.Common.{◌≡◌, ℕ, ℤ, List, Option, length}
use Rattle.studio_config.specs.Studio.{Studio}
use Rattle.studio_io.specs.Answers.{Answer}
use Rattle.studio_io.specs.SendSums.{KeepsSums}
use Rattle.engine_run.specs.FeedFaults.{AllKeepFaults}
use Rattle.engine_run.specs.Runs.{IsUnderWay, IsUnderWayWith}
use Rattle.engine_run.specs.Observers.{HasNotedTaken, Heard}
use Rattle.engine_run.proofs.run.run_rounds.Given as goal

-- the run goes on, with the changes that were taken
abbrev pub invariant-loop : goal.invariant-loop
invariant-loop g l = record {
  space : length l.buf ≡ 2048;
  gains : length l.buffer ≡ 8192;
  on : (studio : Studio) (all : List (List (List Answer))) (clock : List ℤ) (before : Option (List (List ℕ))) (earlier : Option (List Heard))
      → IsUnderWay g.F.Feed.told g.C.Clock.told g.K.Sink.handed g.T.RunObserver.heard studio all clock before earlier l.initial.state
      → IsUnderWayWith g.F.Feed.told g.C.Clock.told g.K.Sink.handed g.T.RunObserver.heard studio all clock before earlier l.state (g.G.GainSource.taken l.initial.gains) (g.G.GainSource.taken l.gains);
  noted : HasNotedTaken (g.G.GainSource.taken l.initial.gains) (g.G.GainSource.taken l.gains) (g.T.RunObserver.noted l.initial.state.observer) (g.T.RunObserver.noted l.state.observer);
  sums : KeepsSums l.initial.state.counts (g.K.Sink.answered l.initial.state.sink) l.state.counts (g.K.Sink.answered l.state.sink);
  faults : AllKeepFaults g.F.Feed.told l.initial.state.readers.items l.state.readers.items;
}
