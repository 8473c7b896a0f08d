use Rattle.std.proofs.lemmas.Grind.{elements}
use Rattle.std.proofs.Common.{◌≡◌, ◌<◌, length, Some, true, slice_get, ap, subst, ◌∙◌, arith, rules}
use Rattle.rtp_stream.specs.declared.stream_spec.Stream.{Stream}
use Rattle.studio_session.specs.Session.{Other, step_of}
use Rattle.studio_session.specs.Cursor.{CursorState}
use Rattle.studio_session.proofs.CursorLemmas.{event_here}
use Rattle.studio_session.proofs.cursor.Cursor.pass_over_others.Goals as goal

pub others-preserved : goal.others-preserved
others-preserved g c =
    let events = g.E.EventSource.events c.args.source.now in
    let i = c.self.inside in
    let inv = c.others.invariant in
    let more = c.pass_over.ensures in
    let within : i.place < length events = let t = c.others-test.true in let n = c.count.ensures in omega (arith, t, n) in
    let found = event_here events i.place within in
    let at : slice_get events c.others.self.place ≡ Some found.0 = subst (λ (s : CursorState). slice_get events s.place ≡ Some found.0) c.self.view_is found.1 in
    let here : c.others.self.place < length events = subst (λ (s : CursorState). s.place < length events) c.self.view_is within in
    let yes : c.is_of_another.result ≡ true = search rules in
    let other : (stream : Stream) → step_of stream i.number found.0 ≡ Other = λ stream. c.is_of_another.ensures yes stream found.0 (c.outline.ensures found.0 found.1) in
    let onward = inv.onward in
    let place = more.place in
    record {
      ready = record {
        within = omega (arith, here, place);
        paths = rw (more.spec, more.number) inv.ready.paths;
      };
      reading = more.reading ∙ inv.reading;
      onward = omega (arith, onward, place);
      stands = λ stream number open_at k pulled.
          let p = inv.stands stream number open_at k pulled in
          let same = ap (λ (s : CursorState). s.number) c.self.view_is ∙ p.stream_number in
          more.stands stream number open_at events found.0 k at (subst (λ n. step_of stream n found.0 ≡ Other) same (other stream)) p;
    }

pub pass_over-requires : goal.pass_over-requires
pass_over-requires c = grind (arith, elements)
