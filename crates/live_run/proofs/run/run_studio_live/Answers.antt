use Rattle.std.proofs.Common.{subst}
use Rattle.std.specs.Prelude.{is_some}
use Rattle.studio_run.specs.Buffer.{BreaksOff, PassesOn}
use Rattle.studio_run.proofs.BufferLemmas.{BreaksOff-finished, PassesOn-finished}
use Rattle.live_run.specs.Report.{report_text}
use Rattle.live_run.proofs.RunLemmas.{broke_off}
use Rattle.live_run.proofs.run.run_studio_live.Goals as goal

pub returns-in_err-write_report-clause-fault : goal.returns-in_err-write_report-clause-fault
returns-in_err-write_report-clause-fault g c =
    let written = g.W.Write.contents c.args.output.now in
    let written_then = g.W.Write.contents c.write_report.new.writer in
    let text = report_text c.in_ok-ended.ended.report in
    broke_off c.args.run.options.now.one_thread (is_some c.args.page.control) c.args.run.studio.now written written_then c.from_residual-in_err-write_report.result c.from_residual-in_err-write_report.ensures.1
    (record {
      report = c.in_ok-ended.ended.report;
      is = c.in_ok-ended.ensures.run;
      part = subst (λ h. BreaksOff written h written_then text) c.in_ok-text.ensures c.in_err-write_report.ensures.fault;
    })

pub returns-in_err-finish-clause-fault : goal.returns-in_err-finish-clause-fault
returns-in_err-finish-clause-fault g c =
    let written = g.W.Write.contents c.args.output.now in
    let held = c.write_report.new.text in
    let text = report_text c.in_ok-ended.ended.report in
    broke_off c.args.run.options.now.one_thread (is_some c.args.page.control) c.args.run.studio.now written (g.W.Write.contents c.finish.new.writer) c.from_residual-in_err-finish.result c.from_residual-in_err-finish.ensures.1
    (record {
      report = c.in_ok-ended.ended.report;
      is = c.in_ok-ended.ensures.run;
      part = BreaksOff-finished _ _ _ held text
          (subst (λ h. PassesOn written h (g.W.Write.contents c.write_report.new.writer) held text) c.in_ok-text.ensures c.in_ok-write_report.ensures.ok)
          c.in_err-finish.ensures.fault;
    })

pub returns-then-not-ended-clause-fault : goal.returns-then-not-ended-clause-fault
returns-then-not-ended-clause-fault g c =
    let written = g.W.Write.contents c.args.output.now in
    let held = c.write_report.new.text in
    let text = report_text c.in_ok-ended.ended.report in
    record {
      report = c.in_ok-ended.ended.report;
      is = c.in_ok-ended.ensures.run;
      answer = c.if-not-ended.true;
      wrote = PassesOn-finished _ _ _ held text
          (subst (λ h. PassesOn written h (g.W.Write.contents c.write_report.new.writer) held text) c.in_ok-text.ensures c.in_ok-write_report.ensures.ok)
          c.in_ok-finish.ensures.ok;
    }

pub returns-clause-ok : goal.returns-clause-ok
returns-clause-ok g c =
    let written = g.W.Write.contents c.args.output.now in
    let held = c.write_report.new.text in
    let text = report_text c.in_ok-ended.ended.report in
    record {
      report = c.in_ok-ended.ended.report;
      is = c.in_ok-ended.ensures.run;
      answer = c.if-not-ended.false;
      wrote = PassesOn-finished _ _ _ held text
          (subst (λ h. PassesOn written h (g.W.Write.contents c.write_report.new.writer) held text) c.in_ok-text.ensures c.in_ok-write_report.ensures.ok)
          c.in_ok-finish.ensures.ok;
    }
