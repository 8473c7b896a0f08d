use Rattle.std.proofs.Common.{◌≡◌, ◌∙◌, Err, Some, length, slice_get, ap, sym, arith, rules}
use Rattle.std.proofs.lemmas.Option.{slice_get-get_or}
use Rattle.studio_run.specs.Listing.{stream_counts_text}
use Rattle.studio_run.proofs.StudioListingLemmas.{texts_after, texts_all, texts_broken}
use Rattle.pcap_replay.proofs.count_lines.write_all_counts.Goals as goal

pub loop-number-preserved : goal.loop-number-preserved
loop-number-preserved g c = λ studio events datagrams s same.
    let streams = c.args.streams.now in
    let i = c.loop-number.number in
    let item = c.index-streams-number.result in
    let at : slice_get studio.streams i ≡ Some item =
    ap (λ l. slice_get l i) same ∙ slice_get-get_or streams i item (omega (arith, c.loop-number-test.true)) ∙ ap Some (sym c.index-streams-number.is) in
    texts_after (stream_counts_text studio.open_at events) studio.streams i item at _ _ _ _ _ _ (c.loop-number.invariant studio events datagrams s same)
    (c.in_ok-write_stream_counts.ensures.ok studio events datagrams s at)

pub returns-in_err-write_stream_counts-clause-fault : goal.returns-in_err-write_stream_counts-clause-fault
returns-in_err-write_stream_counts-clause-fault g c =
    let streams = c.args.streams.now in
    let i = c.loop-number.number in
    let item = c.index-streams-number.result in
    let is : c.from_residual.result ≡ Err c.in_err-write_stream_counts.field-0.0 = search rules in
    rw is (λ studio events datagrams s same.
    let at : slice_get studio.streams i ≡ Some item =
    ap (λ l. slice_get l i) same ∙ slice_get-get_or streams i item (omega (arith, c.loop-number-test.true)) ∙ ap Some (sym c.index-streams-number.is) in
    texts_broken (stream_counts_text studio.open_at events) studio.streams i item at _ _ _ _ _ (c.loop-number.invariant studio events datagrams s same)
    (c.in_err-write_stream_counts.ensures.fault studio events datagrams s at))

pub returns-clause-ok : goal.returns-clause-ok
returns-clause-ok g c = λ studio events datagrams s same.
    let all : length studio.streams ≡ length c.args.streams.now = ap length same in
    let end = c.loop-number-test.false in
    texts_all (stream_counts_text studio.open_at events) studio.streams c.loop-number.number (omega (arith, all, end)) _ _ _ _ (c.loop-number.invariant studio events datagrams s same)
