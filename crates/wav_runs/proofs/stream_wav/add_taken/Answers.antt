use Rattle.std.proofs.lemmas.Grind.{elements}
use Rattle.std.proofs.Common.{◌≡◌, ◌∙◌, Err, rules, arith}
use Rattle.studio_session.specs.Cursor.{next_of}
use Rattle.studio_session.proofs.CursorLemmas.{none_due}
use Rattle.wav_runs.proofs.StreamPartLemmas.{taken_part}
use Rattle.wav_runs.proofs.StreamTrackLemmas.{taken_lent}
use Rattle.wav_runs.proofs.stream_wav.add_taken.Goals as goal

pub marks-preserved : goal.marks-preserved
marks-preserved g c =
    let inv = c.marks.invariant in
    let kept = c.pass-more.ensures.kept in
    record {
      stands = λ stream number open_at events made first run some.
          let t = inv.stands stream number open_at events made first run some in
          taken_lent stream number open_at events made _ _ first _ _ c.marks.cursor c.pass-more.new.self (next_of c.marks.cursor) _ run t
          (c.pass-more.ensures.stands stream number open_at events t.given run t.pulled) c.mark.ensures c.in_ok-wrote.ensures.ok;
      kept = record { spec = kept.spec ∙ inv.kept.spec; number = kept.number ∙ inv.kept.number; tallies = kept.tallies ∙ inv.kept.tallies; place = kept.place ∙ inv.kept.place };
    }

pub returns-then-not-more-clause-ok : goal.returns-then-not-more-clause-ok
returns-then-not-more-clause-ok g c = λ stream number open_at events made first run some.
    let t = c.marks.invariant.stands stream number open_at events made first run some in
    let taken = taken_lent stream number open_at events made _ _ first _ _ c.marks.cursor c.pass-more.new.self (next_of c.marks.cursor) _ run t
    (c.pass-more.ensures.stands stream number open_at events t.given run t.pulled) c.mark.ensures c.in_ok-wrote.ensures.ok in
    let last = c.if-not-more.true in
    record { taken = taken; none = none_due stream number open_at events c.pass-more.new.self taken.given run taken.pulled (c.pass-more.ensures.settled last) (c.pass-more.ensures.all last) }

pub returns-in_err-wrote-clause-part : goal.returns-in_err-wrote-clause-part
returns-in_err-wrote-clause-part g c =
    let is : c.from_residual.result ≡ Err c.in_err-wrote.field-0.0 = search rules in
    rw is (λ stream number open_at events made first run some.
    let t = c.marks.invariant.stands stream number open_at events made first run some in
    taken_part stream number open_at events made (g.F.Write.contents c.marks.file) (g.F.Write.contents c.add_next-wrote.new.file) first c.marks.track c.add_next-wrote.new.self.wav c.marks.cursor c.pass-more.new.self (next_of c.marks.cursor) _ run t
    (c.pass-more.ensures.stands stream number open_at events t.given run t.pulled) c.mark.ensures c.in_err-wrote.ensures.part)

pub returns-then-not-more-clause-all : goal.returns-then-not-more-clause-all
returns-then-not-more-clause-all c = grind (arith, elements)
