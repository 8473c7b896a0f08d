use Rattle.std.proofs.lemmas.Grind.{elements}
use Rattle.std.proofs.Common.{◌≡◌, false, is_err, sym, ◌∙◌, arith}
use Rattle.engine_run.specs.Rounds.{events_by}
use Rattle.engine_run.proofs.RunLemmas.{on-fine, run-ends}
use Rattle.engine_run.proofs.output.settle.Goals as goal

pub returns-clause-done : goal.returns-clause-done
returns-clause-done g c = λ e studio all clock before earlier ended h.
    let fine : is_err c.close.result ≡ false = sym c.is_err.ensures.value ∙ c.if-is_err.false in
    run-ends g.F.Feed.told g.C.Clock.told g.K.Sink.handed g.T.RunObserver.heard studio all clock before earlier c.args.state.now _ c.close.new.self h ended
    (on-fine c.close.result _ fine c.close.ensures.stands studio (events_by studio.open_at h.rounds) h.datagrams h.stands)
    (λ events s. c.send_rest.ensures.sent studio events h.datagrams s)
    c.closed.ensures.heard
    (sym c.settled.ensures.value ∙ e) (c.settled.ensures.whole e)

pub returns-then-is_err-clause-done : goal.returns-then-is_err-clause-done
returns-then-is_err-clause-done c = grind (arith, elements)

pub returns-clause-sums : goal.returns-clause-sums
returns-clause-sums g c = c.send_rest.ensures.sums

pub returns-then-is_err-clause-sums : goal.returns-then-is_err-clause-sums
returns-then-is_err-clause-sums g c = λ first h. h
