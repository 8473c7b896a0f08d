use Rattle.std.proofs.Common.{length, refl, sym, subst, ◌∙◌}
use Rattle.std.proofs.lemmas.List.{with_items_is}
use Rattle.engine_run.specs.FeedFaults.{AllKeepFaults}
use Rattle.engine_run.specs.Rounds.{events_by}
use Rattle.engine_run.proofs.RunLemmas.{take-more}
use Rattle.engine_run.proofs.state.RunState.take.Goals as goal

pub returns-clause-on : goal.returns-clause-on
returns-clause-on g c = λ studio all clock before earlier h.
    let old = c.args.self.now in
    let lent = c.as_mut_slice.result.now in
    let kept = with_items_is old.readers c.take_all.new.streams (c.take_all.auto.streams ∙ c.as_mut_slice.ensures.len) in
    take-more g.F.Feed.told g.C.Clock.told g.K.Sink.handed g.T.RunObserver.heard studio all clock before earlier old _ h lent c.take_all.new.streams (length lent) refl
    (sym c.as_mut_slice.ensures.value) kept refl refl refl
    (c.in_ok-most.ensures.takes studio (events_by studio.open_at h.run.rounds) h.run.datagrams h.run.stands)

pub returns-clause-sums : goal.returns-clause-sums
returns-clause-sums g c = λ first h. h

pub returns-in_err-most-clause-sums : goal.returns-in_err-most-clause-sums
returns-in_err-most-clause-sums g c = λ first h. h

pub returns-clause-faults : goal.returns-clause-faults
returns-clause-faults g c =
    let old = c.args.self.now.readers in
    let kept = with_items_is old c.take_all.new.streams (c.take_all.auto.streams ∙ c.as_mut_slice.ensures.len) in
    subst (AllKeepFaults g.F.Feed.told old.items) (sym kept) (subst (λ l. AllKeepFaults g.F.Feed.told l c.take_all.new.streams) c.as_mut_slice.ensures.value c.take_all.ensures.faults)

pub returns-in_err-most-clause-faults : goal.returns-in_err-most-clause-faults
returns-in_err-most-clause-faults g c =
    let old = c.args.self.now.readers in
    let kept = with_items_is old c.take_all.new.streams (c.take_all.auto.streams ∙ c.as_mut_slice.ensures.len) in
    subst (AllKeepFaults g.F.Feed.told old.items) (sym kept) (subst (λ l. AllKeepFaults g.F.Feed.told l c.take_all.new.streams) c.as_mut_slice.ensures.value c.take_all.ensures.faults)
