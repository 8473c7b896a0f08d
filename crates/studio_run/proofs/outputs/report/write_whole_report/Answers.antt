use Rattle.std.proofs.Common.{◌≡◌, Err, rules, subst}
use Rattle.studio_run.specs.Buffer.{BreaksOff, PassesOn}
use Rattle.studio_run.proofs.BufferLemmas.{PassesOn-finished}
use Rattle.studio_run.proofs.StudioReportLemmas.{report_unfinished}
use Rattle.studio_run.proofs.outputs.report.write_whole_report.Goals as goal

pub returns-in_err-write_report-clause-fault : goal.returns-in_err-write_report-clause-fault
returns-in_err-write_report-clause-fault g c =
    let written = g.W.Write.contents c.args.writer.now in
    let written_then = g.W.Write.contents c.write_report.new.writer in
    let is : c.from_residual.result ≡ Err c.in_err-write_report.field-0.0 = search rules in
    rw is (λ studio report run played report_is. subst (λ h. BreaksOff written h written_then report) c.requires.empty (c.in_err-write_report.ensures.fault studio report run played report_is))

pub returns-in_err-finish-clause-fault : goal.returns-in_err-finish-clause-fault
returns-in_err-finish-clause-fault g c =
    let is : c.from_residual-in_err-finish.result ≡ Err c.in_err-finish.field-0.0 = search rules in
    rw is (λ studio report run played report_is.
    report_unfinished studio (g.E.EventSource.events c.args.source.now) _ _ _ c.args.text.now c.write_report.new.text c.requires.empty (c.in_ok-write_report.ensures.ok studio run played) report report_is c.in_err-finish.ensures.fault)

pub returns-clause-ok : goal.returns-clause-ok
returns-clause-ok g c studio run played =
    let whole = c.in_ok-write_report.ensures.ok studio run played in (
      whole.report,
      whole.is,
      PassesOn-finished _ _ _ c.write_report.new.text whole.report
          (subst (λ h. PassesOn (g.W.Write.contents c.args.writer.now) h (g.W.Write.contents c.write_report.new.writer) c.write_report.new.text whole.report) c.requires.empty whole.wrote) c.in_ok-finish.ensures.ok,
    )
