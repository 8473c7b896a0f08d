use Rattle.std.proofs.Common.{◌≡◌, min, length, ap, ◌∙◌, Err, rules}
use Rattle.live_run.proofs.TextLemmas.{writing_broken, writing_more}
use Rattle.live_run.proofs.ReportLemmas.{feeds_next}
use Rattle.live_run.proofs.report.write_feeds.Goals as goal

pub loop-number-preserved : goal.loop-number-preserved
loop-number-preserved g c =
    writing_more _ _ _ _ _ _ _ _ _ _
    (feeds_next c.loop-number.number c.min-count.result c.args.streams.now c.index-streams-number.result c.loop-number.rest.now c.split_at.result.0.now c.split_at.result.1.now
    c.loop-number-test.true c.index-streams-number.is (c.min-count.ensures ∙ ap (λ ps. min (length ps) (length c.loop-number.rest.now)) c.paths_in.ensures.value)
    c.split_at.ensures.front c.split_at.ensures.back)
    c.loop-number.invariant c.in_ok-write_own_feeds.ensures.ok

pub returns-in_err-write_own_feeds-clause-fault : goal.returns-in_err-write_own_feeds-clause-fault
returns-in_err-write_own_feeds-clause-fault g c =
    let is : c.from_residual.result ≡ Err c.in_err-write_own_feeds.field-0.0 = search rules in
    rw is (writing_broken _ _ _ _ _ _ _ _ _
    (feeds_next c.loop-number.number c.min-count.result c.args.streams.now c.index-streams-number.result c.loop-number.rest.now c.split_at.result.0.now c.split_at.result.1.now
    c.loop-number-test.true c.index-streams-number.is (c.min-count.ensures ∙ ap (λ ps. min (length ps) (length c.loop-number.rest.now)) c.paths_in.ensures.value)
    c.split_at.ensures.front c.split_at.ensures.back)
    c.loop-number.invariant c.in_err-write_own_feeds.ensures.fault)
