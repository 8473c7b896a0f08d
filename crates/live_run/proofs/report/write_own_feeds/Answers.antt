use Rattle.std.proofs.Common.{◌≡◌, Err, rules}
use Rattle.live_run.proofs.TextLemmas.{writing_broken, writing_more}
use Rattle.live_run.proofs.ReportLemmas.{own_next}
use Rattle.live_run.proofs.report.write_own_feeds.Goals as goal

pub loop-place-preserved : goal.loop-place-preserved
loop-place-preserved g c =
    writing_more _ _ _ _ _ _ _ _ _ _ (own_next c.args.number c.loop-place.place c.in-Some.path c.args.faults.now c.in-Some.ensures.value c.loop-place-test.true)
    c.loop-place.invariant c.in_ok-write_feed_faults.ensures.ok

pub returns-in_err-write_feed_faults-clause-fault : goal.returns-in_err-write_feed_faults-clause-fault
returns-in_err-write_feed_faults-clause-fault g c =
    let is : c.from_residual.result ≡ Err c.in_err-write_feed_faults.field-0.0 = search rules in
    rw is (writing_broken _ _ _ _ _ _ _ _ _ (own_next c.args.number c.loop-place.place c.in-Some.path c.args.faults.now c.in-Some.ensures.value c.loop-place-test.true)
    c.loop-place.invariant c.in_err-write_feed_faults.ensures.fault)
