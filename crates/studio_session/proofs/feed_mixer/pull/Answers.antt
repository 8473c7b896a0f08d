use Rattle.std.proofs.Common.{length, ◌∙◌}
use Rattle.studio_session.proofs.PlayLemmas.{runnable_at, plays_on, plays_all}
use Rattle.studio_session.proofs.feed_mixer.pull.Goals as goal

pub returns-then-not-pull_marks-clause-stands : goal.returns-then-not-pull_marks-clause-stands
returns-then-not-pull_marks-clause-stands g c = λ studio feeds next run within plays.
    let events = g.E.EventSource.events c.args.source.now in
    c.pull_marks.ensures.covered c.if-not-pull_marks.true studio events feeds next run within (c.events.invariant.stands studio feeds next run within plays)

pub returns-then-not-take_event-clause-stands : goal.returns-then-not-take_event-clause-stands
returns-then-not-take_event-clause-stands g c = λ studio feeds next run within plays.
    let events = g.E.EventSource.events c.args.source.now in
    let all = c.take_event.ensures.all c.if-not-take_event.true in
    plays_all studio events feeds next c.args.stream c.pull_marks.new.mixer c.pull_marks.new.cursor c.take_event.new.self
    (c.pull_marks.ensures.out c.if-not-pull_marks.false studio events feeds next run within (c.events.invariant.stands studio feeds next run within plays))
    all.1 all.0

pub events-preserved : goal.events-preserved
events-preserved g c =
    let events = g.E.EventSource.events c.args.source.now in
    let inv = c.events.invariant in
    record {
      ready = c.take_event.ensures.ready;
      stands = λ studio feeds next run within plays.
          let out = c.pull_marks.ensures.out c.if-not-pull_marks.false studio events feeds next run within (inv.stands studio feeds next run within plays) in
          let p = out.plays in
          let here = runnable_at studio events feeds next c.args.stream c.pull_marks.new.mixer c.pull_marks.new.cursor run within p in
          plays_on studio events feeds next c.args.stream c.pull_marks.new.mixer c.pull_marks.new.cursor c.take_event.new.self p
          (c.take_event.ensures.stands p.feed.stream c.args.stream studio.open_at (length p.feed.marks) here p.given.pulled);
      packer = c.pull_marks.ensures.packer ∙ inv.packer;
      streams = c.pull_marks.ensures.streams ∙ inv.streams;
    }
