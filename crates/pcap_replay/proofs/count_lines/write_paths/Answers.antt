use Rattle.std.proofs.Common.{◌≡◌, ◌<◌, ◌∙◌, Err, slice_get, ap, subst, arith, rules}
use Rattle.rtp_stream.specs.PathCounts.{path_tally_of}
use Rattle.studio_session.specs.Counts.{path_counts_of}
use Rattle.studio_run.specs.Buffer.{PassesOn}
use Rattle.studio_run.specs.Listing.{paths_text}
use Rattle.studio_run.proofs.StudioCountsLemmas.{paths_broken, paths_more}
use Rattle.pcap_replay.proofs.count_lines.write_paths.Goals as goal

pub loop-place-preserved : goal.loop-place-preserved
loop-place-preserved g c = λ studio events datagrams s at.
    let stream = c.args.stream.now in
    let number = c.args.number in
    let path = c.in-Some.path in
    let tally = path_tally_of c.in-Some-path_counts.counts in
    let here = c.in-Some.ensures.value in
    let counted = c.in-Some-path_counts.ensures.value studio events datagrams stream s (ap (slice_get studio.streams) c.from.ensures ∙ at)
    ∙ ap (λ n. path_counts_of stream n path events) c.from.ensures ∙ ap (λ p. path_counts_of stream number p events) here in
    paths_more stream number events c.loop-place.place path tally here counted _ _ _ _ _ _ (c.loop-place.invariant studio events datagrams s at) c.in_ok-write_path_counts.ensures.ok

pub returns-in_err-write_path_counts-clause-fault : goal.returns-in_err-write_path_counts-clause-fault
returns-in_err-write_path_counts-clause-fault g c =
    let is : c.from_residual.result ≡ Err c.in_err-write_path_counts.field-0.0 = search rules in
    let stream = c.args.stream.now in
    let number = c.args.number in
    let path = c.in-Some.path in
    let tally = path_tally_of c.in-Some-path_counts.counts in
    let here = c.in-Some.ensures.value in
    let within : c.loop-place.place < stream.paths = omega (arith, c.loop-place-test.true, c.paths-place-end.ensures.value) in
    rw is (λ studio events datagrams s at.
    let counted = c.in-Some-path_counts.ensures.value studio events datagrams stream s (ap (slice_get studio.streams) c.from.ensures ∙ at)
    ∙ ap (λ n. path_counts_of stream n path events) c.from.ensures ∙ ap (λ p. path_counts_of stream number p events) here in
    paths_broken stream number events c.loop-place.place path stream.paths tally here counted within _ _ _ _ _ (c.loop-place.invariant studio events datagrams s at) c.in_err-write_path_counts.ensures.fault)

pub returns-clause-ok : goal.returns-clause-ok
returns-clause-ok g c = λ studio events datagrams s at.
    let stream = c.args.stream.now in
    let end : c.loop-place.place ≡ stream.paths = omega (arith, c.loop-place-test.false, c.loop-place.auto.place-end, c.paths-place-end.ensures.value) in
    subst (PassesOn _ _ _ _) (ap (paths_text stream c.args.number events) end) (c.loop-place.invariant studio events datagrams s at)
