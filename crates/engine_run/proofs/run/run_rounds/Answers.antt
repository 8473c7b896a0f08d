use Rattle.std.proofs.Common.{refl, ◌∙◌}
use Rattle.studio_mix.specs.Changed.{with_changes}
use Rattle.engine_run.proofs.FeedFaultLemmas.{all-further, all-same}
use Rattle.engine_run.proofs.GainRequestLemmas.{run-as-it-was, run-took-more}
use Rattle.engine_run.proofs.TellLemmas.{noted_more, noted_none}
use Rattle.engine_run.proofs.run.run_rounds.Goals as goal

pub loop-init : goal.loop-init
loop-init g c = record {
  space = refl;
  gains = refl;
  on = λ studio all clock before earlier h. run-as-it-was g.F.Feed.told g.C.Clock.told g.K.Sink.handed g.T.RunObserver.heard studio all clock before earlier _ _ h;
  noted = noted_none (g.G.GainSource.taken c.args.gains.now) (g.T.RunObserver.noted c.args.state.now.observer);
  sums = λ first h. h;
  faults = all-same g.F.Feed.told c.args.state.now.readers.items;
}

pub returns-in-Ok-None-clause-on : goal.returns-in-Ok-None-clause-on
returns-in-Ok-None-clause-on g c = λ e studio all clock before earlier h.
    let first = c.loop.invariant.on studio all clock before earlier h in
    run-took-more g.F.Feed.told g.C.Clock.told g.K.Sink.handed g.T.RunObserver.heard studio all clock before earlier _ _ _ _ _ first
    (c.in-Ok-None.ensures.on (with_changes studio first.changes) all clock before earlier first.run)

pub returns-in-Ok-None-clause-ended : goal.returns-in-Ok-None-clause-ended
returns-in-Ok-None-clause-ended g c = λ e. c.in-Ok-None.ensures.ended c.in-Ok-None.field-0-is

pub loop-preserved : goal.loop-preserved
loop-preserved g c = record {
  space = c.round.auto.buf ∙ c.loop.invariant.space;
  gains = c.round.auto.buffer ∙ c.loop.invariant.gains;
  on = λ studio all clock before earlier h.
      let first = c.loop.invariant.on studio all clock before earlier h in
      run-took-more g.F.Feed.told g.C.Clock.told g.K.Sink.handed g.T.RunObserver.heard studio all clock before earlier _ _ _ _ _ first
      (c.in-Ok-Some.ensures.on (with_changes studio first.changes) all clock before earlier first.run);
  noted = noted_more _ _ _ _ _ _ c.loop.invariant.noted c.round.ensures.noted;
  sums = λ first h. c.round.ensures.sums first (c.loop.invariant.sums first h);
  faults = all-further g.F.Feed.told c.args.state.now.readers.items _ _ c.loop.invariant.faults c.round.ensures.faults;
}

pub returns-in-Ok-None-clause-noted : goal.returns-in-Ok-None-clause-noted
returns-in-Ok-None-clause-noted g c = noted_more _ _ _ _ _ _ c.loop.invariant.noted c.round.ensures.noted

pub returns-in-Err-clause-noted : goal.returns-in-Err-clause-noted
returns-in-Err-clause-noted g c = noted_more _ _ _ _ _ _ c.loop.invariant.noted c.round.ensures.noted

pub returns-in-Ok-None-clause-sums : goal.returns-in-Ok-None-clause-sums
returns-in-Ok-None-clause-sums g c = λ first h. c.round.ensures.sums first (c.loop.invariant.sums first h)

pub returns-in-Err-clause-sums : goal.returns-in-Err-clause-sums
returns-in-Err-clause-sums g c = λ first h. c.round.ensures.sums first (c.loop.invariant.sums first h)

pub returns-in-Ok-None-clause-faults : goal.returns-in-Ok-None-clause-faults
returns-in-Ok-None-clause-faults g c = all-further g.F.Feed.told c.args.state.now.readers.items _ _ c.loop.invariant.faults c.round.ensures.faults

pub returns-in-Err-clause-faults : goal.returns-in-Err-clause-faults
returns-in-Err-clause-faults g c = all-further g.F.Feed.told c.args.state.now.readers.items _ _ c.loop.invariant.faults c.round.ensures.faults
