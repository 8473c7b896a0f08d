use Rattle.std.proofs.Common.{◌≡◌, Err, rules}
use Rattle.live_run.proofs.TextLemmas.{writing_broken, writing_more}
use Rattle.live_run.proofs.ReportLemmas.{paths_next}
use Rattle.live_run.proofs.report.write_paths.Goals as goal

pub loop-place-preserved : goal.loop-place-preserved
loop-place-preserved g c =
    writing_more _ _ _ _ _ _ _ _ _ _
    (paths_next c.args.number c.loop-place.place c.in-Some.path c.args.paths.now c.index-paths-place.result c.in-Some.ensures.value c.loop-place-test.true c.index-paths-place.is)
    c.loop-place.invariant c.in_ok-write_path_counts.ensures.ok

pub returns-in_err-write_path_counts-clause-fault : goal.returns-in_err-write_path_counts-clause-fault
returns-in_err-write_path_counts-clause-fault g c =
    let is : c.from_residual.result ≡ Err c.in_err-write_path_counts.field-0.0 = search rules in
    rw is (writing_broken _ _ _ _ _ _ _ _ _
    (paths_next c.args.number c.loop-place.place c.in-Some.path c.args.paths.now c.index-paths-place.result c.in-Some.ensures.value c.loop-place-test.true c.index-paths-place.is)
    c.loop-place.invariant c.in_err-write_path_counts.ensures.fault)
