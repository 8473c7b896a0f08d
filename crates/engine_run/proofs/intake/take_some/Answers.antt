use Rattle.std.proofs.Common.{◌≡◌, arith, ◌∙◌, length, ap, refl, subst}
use Rattle.engine_run.specs.Intake.{GaveBy, Takes}
use Rattle.engine_run.proofs.AnswerLemmas.{goes-nowhere}
use Rattle.engine_run.proofs.AskLemmas.{asks-none}
use Rattle.engine_run.proofs.FeedFaultLemmas.{reader-same}
use Rattle.engine_run.proofs.TakeLemmas.{takes-last, takes-more, takes-none}
use Rattle.engine_run.proofs.intake.take_some.Goals as goal

pub loop-init : goal.loop-init
loop-init g c = record {
  space = c.requires.space;
  takes = λ studio events datagrams s.
      let none = takes-none g.F.Feed.told studio _ events datagrams _ _ _ _ _ 0 s (goes-nowhere g.F.Feed.told c.args.reader.now) (asks-none g.F.Feed.told c.args.reader.now) in
      (none.0, ap length none.1);
  noted = refl;
  faults = reader-same g.F.Feed.told c.args.reader.now;
}

pub returns-in-Fault-clause-takes : goal.returns-in-Fault-clause-takes
returns-in-Fault-clause-takes g c = λ studio events datagrams s.
    let before = c.loop.invariant.takes studio events datagrams s in
    let one = c.in_ok-outcome.ensures.takes studio _ datagrams before.0.stands in
    let until = c.loop-test.true in
    takes-last g.F.Feed.told studio c.loop.engine _ events datagrams _ _ c.args.reader.now c.loop.reader _ _ _ _ c.loop.counter before.0 before.1 one.0 64 (omega (arith, until))
    (subst (λ o. GaveBy o one.0.given) c.in-Fault.is one.1)

pub returns-in-Nothing-clause-takes : goal.returns-in-Nothing-clause-takes
returns-in-Nothing-clause-takes g c = λ studio events datagrams s.
    let before = c.loop.invariant.takes studio events datagrams s in
    let one = c.in_ok-outcome.ensures.takes studio _ datagrams before.0.stands in
    let until = c.loop-test.true in
    takes-last g.F.Feed.told studio c.loop.engine _ events datagrams _ _ c.args.reader.now c.loop.reader _ _ _ _ c.loop.counter before.0 before.1 one.0 64 (omega (arith, until))
    (subst (λ o. GaveBy o one.0.given) c.in-Nothing.is one.1)

pub loop-preserved : goal.loop-preserved
loop-preserved g c = record {
  space = c.take_one.auto.buf ∙ c.loop.invariant.space;
  takes = λ studio events datagrams s.
      let before = c.loop.invariant.takes studio events datagrams s in
      let one = c.in_ok-outcome.ensures.takes studio _ datagrams before.0.stands in
      let gave = subst (λ o. GaveBy o one.0.given) c.in-Datagram.is one.1 in
      takes-more g.F.Feed.told studio c.loop.engine _ events datagrams _ _ c.args.reader.now c.loop.reader _ _ _ _ c.loop.counter before.0 before.1 one.0 gave;
  noted = c.take_one.ensures.noted ∙ c.loop.invariant.noted;
  faults = λ told counts. c.take_one.ensures.faults told (c.loop.invariant.faults told counts);
}

pub returns-clause-takes : goal.returns-clause-takes
returns-clause-takes g c = λ studio events datagrams s.
    let until = c.loop.auto.counter-end in
    let all : c.loop.counter ≡ 64 = omega (arith, c.loop-test.false, until) in
    subst (λ n. Takes g.F.Feed.told studio c.loop.engine events datagrams c.args.stream c.args.path c.args.reader.now c.loop.reader (g.T.RunObserver.heard c.args.observer.now) (g.T.RunObserver.heard c.loop.observer) n) all (c.loop.invariant.takes studio events datagrams s).0

pub returns-in-Fault-clause-faults : goal.returns-in-Fault-clause-faults
returns-in-Fault-clause-faults g c = λ told counts. c.take_one.ensures.faults told (c.loop.invariant.faults told counts)

pub returns-in-Nothing-clause-faults : goal.returns-in-Nothing-clause-faults
returns-in-Nothing-clause-faults g c = λ told counts. c.take_one.ensures.faults told (c.loop.invariant.faults told counts)

pub returns-in_err-outcome-clause-faults : goal.returns-in_err-outcome-clause-faults
returns-in_err-outcome-clause-faults g c = λ told counts. c.take_one.ensures.faults told (c.loop.invariant.faults told counts)
