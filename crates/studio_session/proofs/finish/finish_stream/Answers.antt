use Rattle.std.proofs.Common.{sym, subst}
use Rattle.studio_session.specs.Report.{HasCounts}
use Rattle.studio_session.proofs.ReportLemmas.{finished}
use Rattle.studio_session.proofs.finish.finish_stream.Goals as goal

pub events-preserved : goal.events-preserved
events-preserved g c =
    let inv = c.events.invariant in
    record {
      ready = c.take_event.ensures.ready;
      stands = λ stream number open_at run some.
          let events = g.E.EventSource.events c.args.source.now in
          let left = c.drop_marks.ensures.stands stream number open_at events run (inv.stands stream number open_at run some) in
          record { given = left.given; pulled = c.take_event.ensures.stands stream number open_at left.given run left.pulled };
    }

pub returns-then-not-take_event-clause-stands : goal.returns-then-not-take_event-clause-stands
returns-then-not-take_event-clause-stands g c = λ stream number open_at run some.
    let events = g.E.EventSource.events c.args.source.now in
    let all = c.take_event.ensures.all c.if-not-take_event.true in
    let left = c.drop_marks.ensures.stands stream number open_at events run (c.events.invariant.stands stream number open_at run some) in
    subst (HasCounts stream number open_at events) (sym all.0)
    (finished stream number open_at events c.drop_marks.new.cursor c.drop_marks.ensures.settled all.1 left)
