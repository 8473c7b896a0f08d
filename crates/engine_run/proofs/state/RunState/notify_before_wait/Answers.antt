use Rattle.engine_run.proofs.RunLemmas.{looked}
use Rattle.engine_run.proofs.state.RunState.notify_before_wait.Goals as goal

pub returns-clause-on : goal.returns-clause-on
returns-clause-on g c = λ studio all clock before earlier h.
    looked g.F.Feed.told g.C.Clock.told g.K.Sink.handed g.T.RunObserver.heard studio all clock before earlier c.args.self.now c.before_wait.new.self h c.before_wait.ensures.heard

pub returns-clause-sums : goal.returns-clause-sums
returns-clause-sums g c = λ first h. h
