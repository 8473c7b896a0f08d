use Rattle.std.proofs.Common.{◌≡◌, ◌<◌, ◌+◌, ◌∙◌, length, Some, slice_get, refl, sym, ap, subst, arith}
use Rattle.std.proofs.lemmas.List.{length_push}
use Rattle.std.proofs.lemmas.Option.{slice_get_read}
use Rattle.rtp_stream.specs.declared.stream_counts.StreamCounts.{StreamCounts}
use Rattle.rtp_stream.specs.declared.stream_spec.Stream.{Stream}
use Rattle.studio_session.specs.Report.{AreCountsOf}
use Rattle.studio_session.proofs.ReportLemmas.{places_more}
use Rattle.engine_run.proofs.CountLemmas.{one}
use Rattle.engine_run.proofs.report.all_counts.Goals as goal

pub loop-stream-preserved : goal.loop-stream-preserved
loop-stream-preserved c =
    let inv = c.loop-stream.invariant in
    let specs = c.args.specs.now in
    let i = c.loop-stream.stream in
    let spec = c.index-specs-stream.result in
    let more = c.in_ok-stream_counts.field-0 in
    let within : i < length specs = omega (arith, c.loop-stream-test.true) in
    let there : slice_get specs i ≡ Some spec = slice_get_read specs (length specs) i spec refl within c.index-specs-stream.is in
    let pushed = c.in_ok-push.ensures.items in
    record {
      count = ap length pushed ∙ length_push c.loop-stream.counts.items more ∙ ap (λ n. n + 1) inv.count;
      counted = λ studio events datagrams s marks same j counts at.
          let here : slice_get studio.streams i ≡ Some spec = ap (λ l. slice_get l i) (sym same) ∙ there in
          places_more (λ n (x : StreamCounts). (stream : Stream) → slice_get studio.streams n ≡ Some stream → AreCountsOf stream n studio.open_at events x)
          c.loop-stream.counts.items i more inv.count
          (λ stream is. subst (λ (x : Stream). AreCountsOf x i studio.open_at events more) (one spec stream (sym here ∙ is)) (c.in_ok-stream_counts.ensures studio events datagrams s marks here))
          (inv.counted studio events datagrams s marks same) j counts (ap (λ l. slice_get l j) (sym pushed) ∙ at);
    }

pub returns : goal.returns
returns c = λ studio events datagrams s marks same.
    let inv = c.loop-stream.invariant in
    let end : c.loop-stream.stream ≡ length c.args.specs.now = omega (arith, c.loop-stream-test.false, c.loop-stream.auto.stream-end) in
    record {
      count = inv.count ∙ end ∙ ap length same;
      each = λ i stream counts is at. inv.counted studio events datagrams s marks same i counts at stream is;
    }
