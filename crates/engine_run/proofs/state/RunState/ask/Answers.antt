use Rattle.engine_run.specs.Rounds.{events_by}
use Rattle.engine_run.proofs.GainRequestLemmas.{run-asked}
use Rattle.engine_run.proofs.state.RunState.ask.Goals as goal

pub returns-clause-on : goal.returns-clause-on
returns-clause-on g c = λ studio all clock before earlier h.
    run-asked g.F.Feed.told g.C.Clock.told g.K.Sink.handed g.T.RunObserver.heard studio all clock before earlier c.args.self.now c.ask_source.new.engine c.ask_source.new.observer _ _ h c.ask_source.ensures.time
    c.ask_source.ensures.heard (c.ask_source.ensures.stands studio (events_by studio.open_at h.rounds) h.datagrams h.stands)

pub returns-clause-sums : goal.returns-clause-sums
returns-clause-sums g c = λ first h. h
