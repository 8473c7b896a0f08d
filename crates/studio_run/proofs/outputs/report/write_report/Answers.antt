use Rattle.std.proofs.Common.{◌≡◌, All, Err, length, sym, subst, rules}
use Rattle.studio_session.specs.Cursor.{IsReadyFor}
use Rattle.studio_session.specs.Report.{ArePulled}
use Rattle.studio_run.proofs.StudioReportLemmas.{report_broken, report_broken_early, report_whole}
use Rattle.studio_run.proofs.outputs.report.write_report.Goals as goal

pub returns-in_err-write_datagrams-clause-fault : goal.returns-in_err-write_datagrams-clause-fault
returns-in_err-write_datagrams-clause-fault g c =
    let is : c.from_residual.result ≡ Err c.in_err-write_datagrams.field-0.0 = search rules in
    rw is (λ studio report run played report_is.
    report_broken_early studio (g.E.EventSource.events c.args.source.now) _ _ _ report report_is
    (c.in_err-write_datagrams.ensures.fault studio report_is.datagrams run played report_is.ready))

pub write_counts-requires : goal.write_counts-requires
write_counts-requires g c =
    let events = g.E.EventSource.events c.args.source.now in
    record {
      ready = subst (λ l. All (IsReadyFor events) l) (sym c.as_mut_slice.ensures.value) (c.into_cursors-cursors.ensures.ready events c.write_datagrams.ensures.ready);
    }

pub returns-in_err-write_counts-clause-fault : goal.returns-in_err-write_counts-clause-fault
returns-in_err-write_counts-clause-fault g c =
    let events = g.E.EventSource.events c.args.source.now in
    let is : c.from_residual-in_err-write_counts.result ≡ Err c.in_err-write_counts.field-0.0 = search rules in
    rw is (λ studio report run played report_is.
    let reported = c.in_ok-write_datagrams.ensures.ok studio run played in
    report_broken studio events _ _ _ _ _ c.write_datagrams.new.session report reported report_is
    (c.in_err-write_counts.ensures.fault studio run
    (subst (ArePulled studio events) (sym c.as_mut_slice.ensures.value) (c.into_cursors-cursors.ensures.pulled studio events (length reported.datagrams) reported.played))))

pub returns-clause-ok : goal.returns-clause-ok
returns-clause-ok g c = λ studio run played.
    let events = g.E.EventSource.events c.args.source.now in
    let reported = c.in_ok-write_datagrams.ensures.ok studio run played in
    report_whole studio events _ _ _ _ _ _ c.write_datagrams.new.session reported
    (c.in_ok-write_counts.ensures.ok studio run
    (subst (ArePulled studio events) (sym c.as_mut_slice.ensures.value) (c.into_cursors-cursors.ensures.pulled studio events (length reported.datagrams) reported.played)))
