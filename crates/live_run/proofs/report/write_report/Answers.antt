use Rattle.std.proofs.Common.{◌≡◌, ◌++◌, refl, subst, Err, rules}
use Rattle.studio_run.specs.Buffer.{BreaksOff, PassesOn}
use Rattle.studio_run.proofs.BufferLemmas.{BreaksOff-later, BreaksOff-longer, PassesOn-trans}
use Rattle.live_run.specs.Report.{feeds_text, sink_text, streams_text}
use Rattle.live_run.proofs.ReportLemmas.{report_is}
use Rattle.live_run.proofs.report.write_report.Goals as goal

pub returns-in_err-write_streams-clause-fault : goal.returns-in_err-write_streams-clause-fault
returns-in_err-write_streams-clause-fault g c =
    let streams = c.streams_in-streams.result.now in
    let report = c.args.report.now in
    let faults = report.feed_faults.items in
    let is : c.from_residual.result ≡ Err c.in_err-write_streams.field-0.0 = search rules in
    rw is (subst (BreaksOff _ _ _) (report_is report streams faults c.streams_in-streams.ensures.value refl)
    (BreaksOff-longer _ _ _ (streams_text 0 streams ++ feeds_text 0 streams faults) (sink_text report)
    (BreaksOff-longer _ _ _ (streams_text 0 streams) (feeds_text 0 streams faults) c.in_err-write_streams.ensures.fault)))

pub returns-in_err-write_feeds-clause-fault : goal.returns-in_err-write_feeds-clause-fault
returns-in_err-write_feeds-clause-fault g c =
    let streams = c.streams_in-streams.result.now in
    let report = c.args.report.now in
    let faults = c.as_slice.result.now in
    let is : c.from_residual-in_err-write_feeds.result ≡ Err c.in_err-write_feeds.field-0.0 = search rules in
    rw is (subst (BreaksOff _ _ _) (report_is report streams faults c.streams_in-streams.ensures.value c.as_slice.ensures.value)
    (BreaksOff-longer _ _ _ (streams_text 0 streams ++ feeds_text 0 streams faults) (sink_text report)
    (BreaksOff-later _ _ _ _ _ (streams_text 0 streams) (feeds_text 0 streams faults) c.in_ok-write_streams.ensures.ok c.in_err-write_feeds.ensures.fault)))

pub returns-in_err-write_sink_counts-clause-fault : goal.returns-in_err-write_sink_counts-clause-fault
returns-in_err-write_sink_counts-clause-fault g c =
    let streams = c.streams_in-streams.result.now in
    let report = c.args.report.now in
    let faults = c.as_slice.result.now in
    let is : c.from_residual-in_err-write_sink_counts.result ≡ Err c.in_err-write_sink_counts.field-0.0 = search rules in
    rw is (subst (BreaksOff _ _ _) (report_is report streams faults c.streams_in-streams.ensures.value c.as_slice.ensures.value)
    (BreaksOff-later _ _ _ _ _ (streams_text 0 streams ++ feeds_text 0 streams faults) (sink_text report)
    (PassesOn-trans _ _ _ _ _ _ (streams_text 0 streams) (feeds_text 0 streams faults) c.in_ok-write_streams.ensures.ok c.in_ok-write_feeds.ensures.ok)
    c.in_err-write_sink_counts.ensures.fault))

pub returns-clause-ok : goal.returns-clause-ok
returns-clause-ok g c =
    let streams = c.streams_in-streams.result.now in
    let report = c.args.report.now in
    let faults = c.as_slice.result.now in
    subst (PassesOn _ _ _ _) (report_is report streams faults c.streams_in-streams.ensures.value c.as_slice.ensures.value)
    (PassesOn-trans _ _ _ _ _ _ (streams_text 0 streams ++ feeds_text 0 streams faults) (sink_text report)
    (PassesOn-trans _ _ _ _ _ _ (streams_text 0 streams) (feeds_text 0 streams faults) c.in_ok-write_streams.ensures.ok c.in_ok-write_feeds.ensures.ok)
    c.in_ok-write_sink_counts.ensures.ok)
