use Rattle.std.proofs.Common.{◌≡◌, length, subst, Err, rules}
use Rattle.rtp_stream.specs.Counts.{tally_of}
use Rattle.studio_run.specs.Buffer.{BreaksOff, PassesOn}
use Rattle.studio_run.specs.Report.{merge_line}
use Rattle.studio_run.proofs.BufferLemmas.{BreaksOff-later, BreaksOff-longer, PassesOn-trans}
use Rattle.live_run.specs.Report.{paths_text}
use Rattle.live_run.proofs.ReportLemmas.{stream_is}
use Rattle.live_run.proofs.report.write_stream.Goals as goal

pub returns-in_err-write_paths-clause-fault : goal.returns-in_err-write_paths-clause-fault
returns-in_err-write_paths-clause-fault g c =
    let n = c.args.number in
    let paths = c.paths_in-paths.result.now in
    let is : c.from_residual.result ≡ Err c.in_err-write_paths.field-0.0 = search rules in
    rw is (subst (BreaksOff _ _ _) (stream_is n c.args.counts.now paths c.paths_in-paths.ensures.value)
    (BreaksOff-longer _ _ _ (paths_text n 0 paths) (merge_line n (length paths) (tally_of c.args.counts.now.merge)) c.in_err-write_paths.ensures.fault))

pub returns-in_err-write_merge_counts-clause-fault : goal.returns-in_err-write_merge_counts-clause-fault
returns-in_err-write_merge_counts-clause-fault g c =
    let is : c.from_residual-in_err-write_merge_counts.result ≡ Err c.in_err-write_merge_counts.field-0.0 = search rules in
    rw is (subst (BreaksOff _ _ _) (stream_is c.args.number c.args.counts.now c.paths_in-paths.result.now c.paths_in-paths.ensures.value)
    (BreaksOff-later _ _ _ _ _ _ _ c.in_ok-write_paths.ensures.ok c.in_err-write_merge_counts.ensures.fault))

pub returns-clause-ok : goal.returns-clause-ok
returns-clause-ok g c =
    subst (PassesOn _ _ _ _) (stream_is c.args.number c.args.counts.now c.paths_in-paths.result.now c.paths_in-paths.ensures.value)
    (PassesOn-trans _ _ _ _ _ _ _ _ c.in_ok-write_paths.ensures.ok c.in_ok-write_merge_counts.ensures.ok)
