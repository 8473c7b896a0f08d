use Rattle.std.proofs.Common.{◌≡◌, ◌∙◌, Err, ap, subst, rules}
use Rattle.studio_session.specs.Cursor.{next_of}
use Rattle.studio_session.proofs.CursorLemmas.{none_due}
use Rattle.studio_run.specs.Buffer.{PassesOn}
use Rattle.studio_run.specs.Text.{next_line}
use Rattle.studio_run.proofs.StudioListingLemmas.{listed_fault, listed_given}
use Rattle.studio_run.proofs.outputs.listing.write_taken.Goals as goal

pub marks-preserved : goal.marks-preserved
marks-preserved g c =
    let inv = c.marks.invariant in
    let kept = c.pass.ensures.kept in
    record {
      stands = λ stream number open_at events written held run some.
          let l = inv.stands stream number open_at events written held run some in
          let given = c.pass.ensures.stands stream number open_at events l.given run l.pulled in
          listed_given stream number open_at events written _ _ held _ _ c.marks.cursor c.pass.new.self (next_of c.marks.cursor) c.number.result run l given
          (c.number.ensures ∙ l.pulled.stream_number) (subst (PassesOn _ _ _ _) (ap (next_line c.number.result) c.mark.ensures) c.in_ok-write_next.ensures.ok);
      kept = record { spec = kept.spec ∙ inv.kept.spec; number = kept.number ∙ inv.kept.number; tallies = kept.tallies ∙ inv.kept.tallies; place = kept.place ∙ inv.kept.place };
    }

pub returns-then-not-pass-clause-ok : goal.returns-then-not-pass-clause-ok
returns-then-not-pass-clause-ok g c = λ stream number open_at events written held run some.
    let l = c.marks.invariant.stands stream number open_at events written held run some in
    let given = c.pass.ensures.stands stream number open_at events l.given run l.pulled in
    let listed = listed_given stream number open_at events written _ _ held _ _ c.marks.cursor c.pass.new.self (next_of c.marks.cursor) c.number.result run l given
    (c.number.ensures ∙ l.pulled.stream_number) (subst (PassesOn _ _ _ _) (ap (next_line c.number.result) c.mark.ensures) c.in_ok-write_next.ensures.ok) in
    let last = c.if-not-pass.true in
    record { listed = listed; none = none_due stream number open_at events c.pass.new.self listed.given run listed.pulled (c.pass.ensures.settled last) (c.pass.ensures.all last) }

pub returns-in_err-write_next-clause-fault : goal.returns-in_err-write_next-clause-fault
returns-in_err-write_next-clause-fault g c =
    let is : c.from_residual.result ≡ Err c.in_err-write_next.field-0.0 = search rules in
    rw is (λ stream number open_at events written held run some.
    listed_fault stream number open_at events written _ _ held _ c.marks.cursor (c.marks.invariant.stands stream number open_at events written held run some) c.in_err-write_next.ensures.fault)
