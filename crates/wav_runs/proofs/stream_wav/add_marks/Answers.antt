use Rattle.std.proofs.lemmas.Grind.{elements}
use Rattle.std.proofs.Common.{◌≡◌, Err, rules, arith}
use Rattle.wav_runs.proofs.StreamTrackLemmas.{taken_all, taken_next, taken_none}
use Rattle.wav_runs.proofs.stream_wav.add_marks.Goals as goal

pub events-init : goal.events-init
events-init g c = record {
  ready = c.requires.ready;
  stands = λ stream number open_at run pulled. taken_none stream number open_at (g.E.EventSource.events c.args.source.now) _ c.args.track.now c.args.cursor.now pulled;
}

pub events-preserved : goal.events-preserved
events-preserved g c =
    let events = g.E.EventSource.events c.args.source.now in
    record {
      ready = c.take_event.ensures.ready;
      stands = λ stream number open_at run pulled.
          let left = c.in_ok-add_taken.ensures.ok stream number open_at events _ _ run (c.events.invariant.stands stream number open_at run pulled) in
          taken_next stream number open_at events _ _ _ _ c.add_taken.new.cursor c.take_event.new.self left.taken
          (c.take_event.ensures.stands stream number open_at left.taken.given run left.taken.pulled);
    }

pub returns-then-not-take_event-clause-ok : goal.returns-then-not-take_event-clause-ok
returns-then-not-take_event-clause-ok g c = λ stream number open_at run pulled.
    let events = g.E.EventSource.events c.args.source.now in
    let left = c.in_ok-add_taken.ensures.ok stream number open_at events _ _ run (c.events.invariant.stands stream number open_at run pulled) in
    taken_all stream number open_at events _ _ _ _ c.add_taken.new.cursor (c.take_event.ensures.all c.if-not-take_event.true).1 left

pub returns-in_err-add_taken-clause-part : goal.returns-in_err-add_taken-clause-part
returns-in_err-add_taken-clause-part g c =
    let is : c.from_residual.result ≡ Err c.in_err-add_taken.field-0.0 = search rules in
    rw is (λ stream number open_at run pulled.
    c.in_err-add_taken.ensures.part stream number open_at (g.E.EventSource.events c.args.source.now) _ _ run (c.events.invariant.stands stream number open_at run pulled))

pub events-smaller : goal.events-smaller
events-smaller c = grind (arith, elements)
