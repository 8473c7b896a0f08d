use Rattle.std.proofs.Common.{◌∙◌}
use Rattle.studio_session.proofs.CursorLemmas.{none_due}
use Rattle.studio_session.proofs.finish.drop_marks.Goals as goal

pub marks-preserved : goal.marks-preserved
marks-preserved c =
    let inv = c.marks.invariant in
    let kept = c.pass.ensures.kept in
    record {
      stands = λ stream number open_at events run some.
          let p = inv.stands stream number open_at events run some in
          let due = c.pass.ensures.stands stream number open_at events p.given run p.pulled in
          record { given = _; pulled = due.stands };
      kept = record { spec = kept.spec ∙ inv.kept.spec; number = kept.number ∙ inv.kept.number; tallies = kept.tallies ∙ inv.kept.tallies; place = kept.place ∙ inv.kept.place };
    }

pub returns-clause-stands : goal.returns-clause-stands
returns-clause-stands c = λ stream number open_at events run some.
    let p = c.marks.invariant.stands stream number open_at events run some in
    let due = c.pass.ensures.stands stream number open_at events p.given run p.pulled in
    let last = c.marks-test.false in
    record { given = _; pulled = due.stands; none = none_due stream number open_at events c.pass.new.self _ run due.stands (c.pass.ensures.settled last) (c.pass.ensures.all last) }
