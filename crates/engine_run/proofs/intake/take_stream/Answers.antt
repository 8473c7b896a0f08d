use Rattle.std.proofs.lemmas.Grind.{common_steps}
use Rattle.std.proofs.Common.{◌≡◌, ◌<◌, ◌++◌, length, get_or, refl, subst, ◌∙◌, arith}
use Rattle.engine_run.specs.Intake.{Takes, TakesStream}
use Rattle.engine_run.proofs.FeedFaultLemmas.{stream-one, stream-same}
use Rattle.engine_run.proofs.TakeLemmas.{stream-more, stream-none}
use Rattle.engine_run.proofs.intake.take_stream.Goals as goal

pub loop-number-init : goal.loop-number-init
loop-number-init g c = record {
  space = c.requires.space;
  takes = λ studio events datagrams s. stream-none g.F.Feed.told studio _ events datagrams _ _ _ s;
  noted = refl;
  faults = stream-same g.F.Feed.told c.args.readers.now;
}

pub loop-number-preserved : goal.loop-number-preserved
loop-number-preserved g c =
    let readers = c.loop-number.readers in
    let i = c.loop-number.number in
    let long = c.loop-number.auto.readers in
    let within : i < length readers = omega (arith, c.loop-number-test.true, long) in
    let item = c.index-readers-number.result in
    record {
      space = c.take_some.auto.buf ∙ c.loop-number.invariant.space;
      takes = λ studio events datagrams s.
          let before = c.loop-number.invariant.takes studio events datagrams s in
          stream-more g.F.Feed.told studio c.loop-number.engine _ events datagrams c.args.stream i c.args.readers.now readers item c.take_some.new.reader _ _ _ before within
          (subst (λ p. Takes g.F.Feed.told studio c.take_some.new.engine (events ++ before.arrivals) datagrams c.args.stream p (get_or readers i item) c.take_some.new.reader (g.T.RunObserver.heard c.loop-number.observer) (g.T.RunObserver.heard c.take_some.new.observer) 64) c.in_ok-path.ensures
          (c.in_ok-take_some.ensures.takes studio _ datagrams before.stands));
      noted = c.take_some.ensures.noted ∙ c.loop-number.invariant.noted;
      faults = stream-one g.F.Feed.told c.args.readers.now readers i item c.take_some.new.reader c.loop-number.invariant.faults c.take_some.ensures.faults;
    }

pub returns-clause-takes : goal.returns-clause-takes
returns-clause-takes g c = λ studio events datagrams s.
    let end = c.loop-number.auto.number-end in
    let all : c.loop-number.number ≡ length c.args.readers.now = omega (arith, c.loop-number-test.false, end) in
    subst (λ n. TakesStream g.F.Feed.told studio c.loop-number.engine events datagrams c.args.stream c.args.readers.now c.loop-number.readers (g.T.RunObserver.heard c.args.observer.now) (g.T.RunObserver.heard c.loop-number.observer) n) all (c.loop-number.invariant.takes studio events datagrams s)

pub offset_bounds-readers-number : goal.offset_bounds-readers-number
offset_bounds-readers-number c = grind (arith, common_steps)

pub returns-in_err-take_some-clause-faults : goal.returns-in_err-take_some-clause-faults
returns-in_err-take_some-clause-faults g c = stream-one g.F.Feed.told c.args.readers.now c.loop-number.readers c.loop-number.number c.index-readers-number.result c.take_some.new.reader c.loop-number.invariant.faults c.take_some.ensures.faults
