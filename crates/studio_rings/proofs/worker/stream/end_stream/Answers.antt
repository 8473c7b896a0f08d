use Rattle.std.proofs.lemmas.Option.{IfSome_then}
use Rattle.rtrb.specs.Ring.{Finishes}
use Rattle.studio_ends.specs.declared.stream_end.turns.StreamDone.{StreamDone}
use Rattle.studio_ends.proofs.TurnLemmas.{producers}
use Rattle.studio_rings.proofs.EndLemmas.{ended, same_token}
use Rattle.studio_rings.proofs.worker.stream.end_stream.Goals as goal

pub returns : goal.returns
returns g c =
    let s = c.args.stream in
    let t = c.pass_tokens.new.stream in
    let f = c.in_ok-done.ensures in
    let later = c.pass_tokens.ensures.later in
    let marks = producers s.end.marks f.closed.marks f.drained.marks (producers s.end.marks t.end.marks f.closed.marks later.marks f.closes.marks) f.drains.marks in
    record {
      paths = c.pass_tokens.ensures.counts;
      faults = c.pass_tokens.ensures.faults;
      token = IfSome_then _ f.token (λ (d : StreamDone) (a : Finishes f.drained.marks d.token). same_token s.end.marks f.drained.marks d.token marks a.0);
      given = IfSome_then _ f.token (λ (d : StreamDone) (a : Finishes f.drained.marks d.token). c.pass_tokens.ensures.given c.if-not-pass_tokens.false);
      ended = IfSome_then _ f.token (λ (d : StreamDone) (a : Finishes f.drained.marks d.token). ended g.C.Clock.told s t f.closed f.drained c.args.results.items _ _ later (c.pass_tokens.ensures.told c.if-not-pass_tokens.false) f.closes f.drains f.counted a.1);
    }
