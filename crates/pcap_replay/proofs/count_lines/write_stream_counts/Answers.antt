use Rattle.std.proofs.Common.{◌≡◌, ◌∙◌, Err, slice_get, ap, refl, rules}
use Rattle.studio_session.specs.Report.{merge_tally_of}
use Rattle.studio_run.proofs.StudioCountsLemmas.{stream_after, stream_broken, stream_broken_early}
use Rattle.pcap_replay.proofs.count_lines.write_stream_counts.Goals as goal

pub returns-in_err-write_paths-clause-fault : goal.returns-in_err-write_paths-clause-fault
returns-in_err-write_paths-clause-fault g c =
    let is : c.from_residual.result ≡ Err c.in_err-write_paths.field-0.0 = search rules in
    let stream = c.args.stream.now in
    rw is (λ studio events datagrams s at.
    stream_broken_early stream stream c.args.number c.args.number studio.open_at events refl refl _ _ _ (c.in_err-write_paths.ensures.fault studio events datagrams s at))

pub returns-in_err-write_merge_counts-clause-fault : goal.returns-in_err-write_merge_counts-clause-fault
returns-in_err-write_merge_counts-clause-fault g c =
    let is : c.from_residual-in_err-write_merge_counts.result ≡ Err c.in_err-write_merge_counts.field-0.0 = search rules in
    let stream = c.args.stream.now in
    let number = c.args.number in
    rw is (λ studio events datagrams s at.
    let counted = c.in-Some.ensures.whole studio events datagrams stream s (ap (slice_get studio.streams) c.from.ensures ∙ at) c.requires.whole
    ∙ ap (λ n. merge_tally_of stream n studio.open_at events) c.from.ensures in
    stream_broken stream stream number number c.paths.result studio.open_at events _ refl refl c.paths.ensures.value counted _ _ _ _ _
    (c.in_ok-write_paths.ensures.ok studio events datagrams s at) c.in_err-write_merge_counts.ensures.fault)

pub returns-clause-ok : goal.returns-clause-ok
returns-clause-ok g c = λ studio events datagrams s at.
    let stream = c.args.stream.now in
    let number = c.args.number in
    let counted = c.in-Some.ensures.whole studio events datagrams stream s (ap (slice_get studio.streams) c.from.ensures ∙ at) c.requires.whole
    ∙ ap (λ n. merge_tally_of stream n studio.open_at events) c.from.ensures in
    stream_after stream stream number number c.paths.result studio.open_at events _ refl refl c.paths.ensures.value counted _ _ _ _ _ _
    (c.in_ok-write_paths.ensures.ok studio events datagrams s at) c.in_ok-write_merge_counts.ensures.ok
