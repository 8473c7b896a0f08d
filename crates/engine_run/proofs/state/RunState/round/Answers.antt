use Rattle.std.proofs.Common.{ap, subst, ◌∙◌, Vec, Global}
use Rattle.studio_mix.specs.Changed.{with_changes}
use Rattle.engine_run.specs.FeedFaults.{AllKeepFaults}
use Rattle.engine_run.specs.declared.feed_reader.FeedReader.{FeedReader}
use Rattle.engine_run.proofs.FeedFaultLemmas.{all-like}
use Rattle.engine_run.proofs.TellLemmas.{noted_same}
use Rattle.engine_run.proofs.state.RunState.round.Goals as goal

pub returns-then-have_all_ended-clause-on : goal.returns-then-have_all_ended-clause-on
returns-then-have_all_ended-clause-on g c = λ studio all clock before earlier h.
    let asked = c.ask.ensures.on studio all clock before earlier h in
    let changed = with_changes studio asked.changes in
    record { changes = asked.changes; taken = asked.taken; run = (c.in_ok-turn.ensures.on changed all clock before earlier asked.run).run }

pub returns-clause-on : goal.returns-clause-on
returns-clause-on g c = λ studio all clock before earlier h.
    let asked = c.ask.ensures.on studio all clock before earlier h in
    let changed = with_changes studio asked.changes in
    let turned = c.in_ok-turn.ensures.on changed all clock before earlier asked.run in
    let idle = c.in_ok-turn_if_stale.ensures.on changed all clock before earlier (c.notify_before_wait.ensures.on changed all clock before earlier turned) in
    record { changes = asked.changes; taken = asked.taken; run = c.in_ok-most.ensures.on changed all clock before earlier idle }

pub returns-clause-noted : goal.returns-clause-noted
returns-clause-noted g c = noted_same _ _ _ _ _ c.ask.ensures.noted
    (c.take.ensures.noted ∙ (ap g.T.RunObserver.noted c.turn_if_stale.ensures.observer ∙ (c.notify_before_wait.ensures.noted ∙ ap g.T.RunObserver.noted c.turn.ensures.observer)))

pub returns-then-have_all_ended-clause-sums : goal.returns-then-have_all_ended-clause-sums
returns-then-have_all_ended-clause-sums g c = λ first h. c.turn.ensures.sums first (c.ask.ensures.sums first h)

pub returns-clause-sums : goal.returns-clause-sums
returns-clause-sums g c = λ first h.
    c.take.ensures.sums first (c.turn_if_stale.ensures.sums first (c.notify_before_wait.ensures.sums first (c.turn.ensures.sums first (c.ask.ensures.sums first h))))

pub returns-in_err-turn-clause-sums : goal.returns-in_err-turn-clause-sums
returns-in_err-turn-clause-sums g c = λ first h. c.turn.ensures.sums first (c.ask.ensures.sums first h)

pub returns-in_err-turn_if_stale-clause-sums : goal.returns-in_err-turn_if_stale-clause-sums
returns-in_err-turn_if_stale-clause-sums g c = λ first h. c.turn_if_stale.ensures.sums first (c.notify_before_wait.ensures.sums first (c.turn.ensures.sums first (c.ask.ensures.sums first h)))

pub returns-in_err-most-clause-sums : goal.returns-in_err-most-clause-sums
returns-in_err-most-clause-sums g c = λ first h.
    c.take.ensures.sums first (c.turn_if_stale.ensures.sums first (c.notify_before_wait.ensures.sums first (c.turn.ensures.sums first (c.ask.ensures.sums first h))))

pub returns-then-have_all_ended-clause-faults : goal.returns-then-have_all_ended-clause-faults
returns-then-have_all_ended-clause-faults g c = all-like g.F.Feed.told c.args.self.now.readers c.turn.new.self.readers (c.turn.ensures.readers ∙ c.ask.ensures.readers)

pub returns-clause-faults : goal.returns-clause-faults
returns-clause-faults g c =
    subst (λ (v : Vec (Vec (FeedReader _) Global) Global). AllKeepFaults g.F.Feed.told v.items c.take.new.self.readers.items)
    (c.turn_if_stale.ensures.readers ∙ (c.notify_before_wait.ensures.readers ∙ (c.turn.ensures.readers ∙ c.ask.ensures.readers))) c.take.ensures.faults

pub returns-in_err-turn-clause-faults : goal.returns-in_err-turn-clause-faults
returns-in_err-turn-clause-faults g c = all-like g.F.Feed.told c.args.self.now.readers c.turn.new.self.readers (c.turn.ensures.readers ∙ c.ask.ensures.readers)

pub returns-in_err-turn_if_stale-clause-faults : goal.returns-in_err-turn_if_stale-clause-faults
returns-in_err-turn_if_stale-clause-faults g c = all-like g.F.Feed.told c.args.self.now.readers c.turn_if_stale.new.self.readers
    (c.turn_if_stale.ensures.readers ∙ (c.notify_before_wait.ensures.readers ∙ (c.turn.ensures.readers ∙ c.ask.ensures.readers)))

pub returns-in_err-most-clause-faults : goal.returns-in_err-most-clause-faults
returns-in_err-most-clause-faults g c =
    subst (λ (v : Vec (Vec (FeedReader _) Global) Global). AllKeepFaults g.F.Feed.told v.items c.take.new.self.readers.items)
    (c.turn_if_stale.ensures.readers ∙ (c.notify_before_wait.ensures.readers ∙ (c.turn.ensures.readers ∙ c.ask.ensures.readers))) c.take.ensures.faults
