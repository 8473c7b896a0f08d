use Rattle.std.proofs.Common.{◌≡◌, Err, rules}
use Rattle.live_run.proofs.TextLemmas.{writing_broken, writing_more}
use Rattle.live_run.proofs.ReportLemmas.{streams_next}
use Rattle.live_run.proofs.report.write_streams.Goals as goal

pub loop-number-preserved : goal.loop-number-preserved
loop-number-preserved g c =
    writing_more _ _ _ _ _ _ _ _ _ _ (streams_next c.loop-number.number c.args.streams.now c.index-streams-number.result c.loop-number-test.true c.index-streams-number.is)
    c.loop-number.invariant c.in_ok-write_stream.ensures.ok

pub returns-in_err-write_stream-clause-fault : goal.returns-in_err-write_stream-clause-fault
returns-in_err-write_stream-clause-fault g c =
    let is : c.from_residual.result ≡ Err c.in_err-write_stream.field-0.0 = search rules in
    rw is (writing_broken _ _ _ _ _ _ _ _ _ (streams_next c.loop-number.number c.args.streams.now c.index-streams-number.result c.loop-number-test.true c.index-streams-number.is)
    c.loop-number.invariant c.in_err-write_stream.ensures.fault)
