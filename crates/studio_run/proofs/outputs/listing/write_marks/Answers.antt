use Rattle.std.proofs.lemmas.Grind.{elements}
use Rattle.std.proofs.Common.{◌≡◌, Err, rules, arith}
use Rattle.studio_run.proofs.StudioListingLemmas.{listed_all, listed_next, listed_none}
use Rattle.studio_run.proofs.outputs.listing.write_marks.Goals as goal

pub events-init : goal.events-init
events-init g c = record {
  ready = c.requires.ready;
  stands = λ stream number open_at run pulled. listed_none stream number open_at (g.E.EventSource.events c.args.source.now) _ _ c.args.cursor.now pulled;
}

pub events-preserved : goal.events-preserved
events-preserved g c =
    let events = g.E.EventSource.events c.args.source.now in
    record {
      ready = c.take_event.ensures.ready;
      stands = λ stream number open_at run pulled.
          let left = c.in_ok-write_taken.ensures.ok stream number open_at events _ _ run (c.events.invariant.stands stream number open_at run pulled) in
          listed_next stream number open_at events _ _ _ _ c.write_taken.new.cursor c.take_event.new.self left.listed
          (c.take_event.ensures.stands stream number open_at left.listed.given run left.listed.pulled);
    }

pub returns-in_err-write_taken-clause-fault : goal.returns-in_err-write_taken-clause-fault
returns-in_err-write_taken-clause-fault g c =
    let is : c.from_residual.result ≡ Err c.in_err-write_taken.field-0.0 = search rules in
    rw is (λ stream number open_at run pulled.
    c.in_err-write_taken.ensures.fault stream number open_at (g.E.EventSource.events c.args.source.now) _ _ run (c.events.invariant.stands stream number open_at run pulled))

pub returns-then-not-take_event-clause-ok : goal.returns-then-not-take_event-clause-ok
returns-then-not-take_event-clause-ok g c = λ stream number open_at run pulled.
    let events = g.E.EventSource.events c.args.source.now in
    let left = c.in_ok-write_taken.ensures.ok stream number open_at events _ _ run (c.events.invariant.stands stream number open_at run pulled) in
    listed_all stream number open_at events _ _ _ _ c.write_taken.new.cursor (c.take_event.ensures.all c.if-not-take_event.true).1 left

pub returns-then-not-take_event-clause-pulled : goal.returns-then-not-take_event-clause-pulled
returns-then-not-take_event-clause-pulled g c = λ stream number open_at run pulled.
    let events = g.E.EventSource.events c.args.source.now in
    let left = c.in_ok-write_taken.ensures.ok stream number open_at events _ _ run (c.events.invariant.stands stream number open_at run pulled) in
    record { given = left.listed.given; pulled = c.take_event.ensures.stands stream number open_at left.listed.given run left.listed.pulled }

pub events-smaller : goal.events-smaller
events-smaller c = grind (arith, elements)
