use Rattle.std.proofs.Common.{◌≡◌, ◌<◌, length, refl, subst, ◌∙◌, arith}
use Rattle.engine_run.specs.Intake.{TakesAll}
use Rattle.engine_run.proofs.FeedFaultLemmas.{all-one, all-same}
use Rattle.engine_run.proofs.TakeLemmas.{all-more, all-none}
use Rattle.engine_run.proofs.intake.take_all.Goals as goal

pub loop-stream-init : goal.loop-stream-init
loop-stream-init g c = record {
  space = c.requires.space;
  takes = λ studio events datagrams s. all-none g.F.Feed.told studio _ events datagrams _ _ s;
  noted = refl;
  faults = all-same g.F.Feed.told c.args.streams.now;
}

pub loop-stream-preserved : goal.loop-stream-preserved
loop-stream-preserved g c =
    let streams = c.loop-stream.streams in
    let i = c.loop-stream.stream in
    let long = c.loop-stream.auto.streams in
    let within : i < length streams = omega (arith, c.loop-stream-test.true, long) in
    record {
      space = c.take_own.auto.buf ∙ c.loop-stream.invariant.space;
      takes = λ studio events datagrams s.
          let before = c.loop-stream.invariant.takes studio events datagrams s in
          all-more g.F.Feed.told studio c.loop-stream.engine _ events datagrams i c.args.streams.now streams c.index-streams-stream.result c.take_own.new.own _ _ _ before within
          (c.in_ok-take_own.ensures.takes studio _ datagrams before.stands);
      noted = c.take_own.ensures.noted ∙ c.loop-stream.invariant.noted;
      faults = all-one g.F.Feed.told c.args.streams.now streams i c.index-streams-stream.result c.take_own.new.own c.loop-stream.invariant.faults c.take_own.ensures.faults;
    }

pub returns-clause-takes : goal.returns-clause-takes
returns-clause-takes g c = λ studio events datagrams s.
    let end = c.loop-stream.auto.stream-end in
    let all : c.loop-stream.stream ≡ length c.args.streams.now = omega (arith, c.loop-stream-test.false, end) in
    subst (λ n. TakesAll g.F.Feed.told studio c.loop-stream.engine events datagrams c.args.streams.now c.loop-stream.streams (g.T.RunObserver.heard c.args.observer.now) (g.T.RunObserver.heard c.loop-stream.observer) n) all (c.loop-stream.invariant.takes studio events datagrams s)

pub returns-in_err-take_own-clause-faults : goal.returns-in_err-take_own-clause-faults
returns-in_err-take_own-clause-faults g c =
    all-one g.F.Feed.told c.args.streams.now c.loop-stream.streams c.loop-stream.stream c.index-streams-stream.result c.take_own.new.own c.loop-stream.invariant.faults c.take_own.ensures.faults
