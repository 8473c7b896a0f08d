use Rattle.std.proofs.Common.{rules, ◌≡◌, refl, ap, ◌∙◌, to_z, of_z, w64}
use Rattle.studio_io.specs.Clocks.{time_with}
use Rattle.engine_run.specs.Rounds.{events_by}
use Rattle.engine_run.proofs.RunLemmas.{turn-more}
use Rattle.engine_run.proofs.state.RunState.turn.Goals as goal

pub returns-clause-on : goal.returns-clause-on
returns-clause-on g c = λ studio all clock before earlier h.
    let old = c.args.self.now in
    let events = events_by studio.open_at h.rounds in
    let answer : to_z w64 (of_z w64 c.now-answer.result) ≡ c.now-answer.result = search rules in
    let time : to_z w64 (of_z w64 c.time.result) ≡ c.time.result = search rules in
    let there : to_z w64 (of_z w64 c.greatest-now.result) ≡ c.greatest-now.result = search rules in
    let now = to_z w64 (of_z w64 c.greatest-now.result) in
    let now_is : now ≡ time_with old.engine.time c.now-answer.result =
    there ∙ c.greatest-now.ensures ∙ ap (λ t. time_with t (to_z w64 (of_z w64 c.now-answer.result))) (time ∙ c.time.ensures.value) ∙ ap (time_with old.engine.time) answer in
    turn-more g.F.Feed.told g.C.Clock.told g.K.Sink.handed g.T.RunObserver.heard studio all clock before earlier old _ h c.now-answer.result now
    now_is c.now-answer.ensures.tells (c.in_ok-send_due.ensures.sent studio events h.datagrams h.stands) (c.in_ok-send_due.ensures.there studio events h.datagrams h.stands) refl refl

pub returns-clause-sums : goal.returns-clause-sums
returns-clause-sums g c = c.send_due.ensures.sums

pub returns-in_err-send_due-clause-sums : goal.returns-in_err-send_due-clause-sums
returns-in_err-send_due-clause-sums g c = c.send_due.ensures.sums
