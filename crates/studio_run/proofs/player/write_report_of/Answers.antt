use Rattle.std.proofs.lemmas.Grind.{elements}
use Rattle.std.proofs.Common.{arith}
use Rattle.studio_run.specs.Play.{FailsWriting}
use Rattle.studio_run.specs.StudioReport.{IsReport}
use Rattle.studio_run.specs.declared.player.PlayFault.TheVariants.{Write}
use Rattle.studio_run.proofs.PlayLemmas.{told}
use Rattle.studio_run.proofs.player.write_report_of.Goals as goal

pub write_whole_report-requires-clause-ready : goal.write_whole_report-requires-clause-ready
write_whole_report-requires-clause-ready g c = c.in_ok-session.ensures.ready c.args.events.now c.requires.paths

pub returns-in_err-write_whole_report-clause-fault : goal.returns-in_err-write_whole_report-clause-fault
returns-in_err-write_whole_report-clause-fault g c =
    let answer = c.from_residual-in_err-write_whole_report in
    told (FailsWriting c.args.spec.now IsReport c.args.events.now (g.W.Write.contents c.args.writer.now) (g.W.Write.contents c.write_whole_report.new.writer)) Write answer.result answer.ensures.1
    (λ text is. c.in_err-write_whole_report.ensures.fault c.args.spec.now text c.requires.runnable (c.in_ok-session.ensures.stands c.args.events.now) is)

pub returns-clause-ok : goal.returns-clause-ok
returns-clause-ok g c =
    let whole = c.in_ok-write_whole_report.ensures.ok c.args.spec.now c.requires.runnable (c.in_ok-session.ensures.stands c.args.events.now) in
    record { text = whole.0; is = whole.1; wrote = whole.2 }

pub write_whole_report-requires-clause-short : goal.write_whole_report-requires-clause-short
write_whole_report-requires-clause-short c = grind (arith, elements)
