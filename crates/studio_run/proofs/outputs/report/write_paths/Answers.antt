use Rattle.std.proofs.Common.{◌≡◌, ◌<◌, ◌∙◌, Err, ap, subst, arith, rules}
use Rattle.rtp_stream.specs.declared.stream_spec.Stream.{Stream}
use Rattle.rtp_stream.specs.PathCounts.{path_tally_of}
use Rattle.studio_session.specs.Counts.{path_counts_of}
use Rattle.studio_run.specs.Buffer.{BreaksOff, PassesOn}
use Rattle.studio_run.specs.Listing.{paths_text}
use Rattle.studio_run.specs.Report.{path_line}
use Rattle.studio_run.proofs.StudioCountsLemmas.{paths_broken, paths_more}
use Rattle.studio_run.proofs.outputs.report.write_paths.Goals as goal

pub loop-place-preserved : goal.loop-place-preserved
loop-place-preserved g c = λ events are.
    let cursor = c.args.cursor.now in
    let tally = path_tally_of c.path_counts.result in
    let here = c.in-Some.ensures.value in
    let counted = are c.in-Some.path tally c.path_counts.ensures ∙ ap (λ p. path_counts_of cursor.spec cursor.number p events) here in
    paths_more cursor.spec cursor.number events c.loop-place.place c.in-Some.path tally here counted _ _ _ _ _ _ (c.loop-place.invariant events are)
    (subst (PassesOn _ _ _ _) (ap (λ n. path_line n c.in-Some.path tally) c.number.ensures) c.in_ok-write_path_counts.ensures.ok)

pub returns-in_err-write_path_counts-clause-fault : goal.returns-in_err-write_path_counts-clause-fault
returns-in_err-write_path_counts-clause-fault g c =
    let is : c.from_residual.result ≡ Err c.in_err-write_path_counts.field-0.0 = search rules in
    let cursor = c.args.cursor.now in
    let tally = path_tally_of c.path_counts.result in
    let here = c.in-Some.ensures.value in
    let paths = c.paths-place-end.ensures.value ∙ ap (λ (s : Stream). s.paths) c.spec.ensures in
    let within : c.loop-place.place < cursor.spec.paths = omega (arith, c.loop-place-test.true, paths) in
    rw is (λ events are.
    let counted = are c.in-Some.path tally c.path_counts.ensures ∙ ap (λ p. path_counts_of cursor.spec cursor.number p events) here in
    paths_broken cursor.spec cursor.number events c.loop-place.place c.in-Some.path cursor.spec.paths tally here counted within _ _ _ _ _ (c.loop-place.invariant events are)
    (subst (BreaksOff _ _ _) (ap (λ n. path_line n c.in-Some.path tally) c.number.ensures) c.in_err-write_path_counts.ensures.fault))

pub returns-clause-ok : goal.returns-clause-ok
returns-clause-ok g c = λ events are.
    let cursor = c.args.cursor.now in
    let paths = c.paths-place-end.ensures.value ∙ ap (λ (s : Stream). s.paths) c.spec.ensures in
    let end : c.loop-place.place ≡ cursor.spec.paths = omega (arith, c.loop-place-test.false, c.loop-place.auto.place-end, paths) in
    subst (PassesOn _ _ _ _) (ap (paths_text cursor.spec cursor.number events) end) (c.loop-place.invariant events are)
