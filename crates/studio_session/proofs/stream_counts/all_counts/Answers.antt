use Rattle.std.proofs.Common.{◌≡◌, ◌<◌, ◌+◌, ◌∙◌, length, get_or, Some, slice_get, sym, ap, arith}
use Rattle.std.proofs.lemmas.List.{length_push}
use Rattle.std.proofs.lemmas.List.Elements.{All-set}
use Rattle.std.proofs.lemmas.Option.{slice_get-get_or, slice_get_within}
use Rattle.rtp_stream.specs.declared.stream_spec.Stream.{Stream}
use Rattle.studio_mix.proofs.MixerLemmas.{set_other_at}
use Rattle.studio_session.specs.Cursor.{IsReadyFor}
use Rattle.studio_session.specs.Report.{AreCountsOf}
use Rattle.rtp_stream.specs.declared.stream_counts.StreamCounts.{StreamCounts}
use Rattle.studio_session.proofs.ReportLemmas.{places_more}
use Rattle.studio_session.proofs.stream_counts.all_counts.Goals as goal

pub loop-number-init : goal.loop-number-init
loop-number-init g c = record {
  ready = c.requires.ready;
  count = ap length c.new-counts.ensures.items;
  rest = λ j cursor h at. at;
  counted = λ studio run pulled i counts at stream is.
      let within : i < length c.new-counts.result.items = slice_get_within c.new-counts.result.items i counts at in
      let none : length c.new-counts.result.items ≡ 0 = ap length c.new-counts.ensures.items in
      absurd (omega (arith, within, none));
}

pub loop-number-preserved : goal.loop-number-preserved
loop-number-preserved g c =
    let events = g.E.EventSource.events c.args.source.now in
    let inv = c.loop-number.invariant in
    let cursors = c.loop-number.cursors in
    let i = c.loop-number.number in
    let within : i < length cursors = omega (arith, c.loop-number-test.true, c.loop-number.auto.cursors) in
    let item = c.index-cursors-number.result in
    let at : slice_get cursors i ≡ Some (get_or cursors i item) = slice_get-get_or cursors i item within in
    let pushed = c.in_ok-push.ensures.items in
    record {
      ready = All-set (IsReadyFor events) cursors i c.stream_counts.new.cursor c.stream_counts.ensures.ready inv.ready;
      count = ap length pushed ∙ length_push c.loop-number.counts.items c.in_ok-counted.counted ∙ ap (λ n. n + 1) inv.count;
      rest = λ j cursor h there. inv.rest j cursor (omega (arith, h)) (set_other_at cursors i j c.stream_counts.new.cursor cursor (λ e. absurd (omega (arith, e, h))) there);
      counted = λ studio run pulled j counts there.
          places_more (λ n (x : StreamCounts). (stream : Stream) → slice_get studio.streams n ≡ Some stream → AreCountsOf stream n studio.open_at events x)
          c.loop-number.counts.items i c.in_ok-counted.counted inv.count
          (λ stream is. c.in_ok-counted.ensures.counts stream i studio.open_at (run.each i stream is) (pulled.each i stream (get_or cursors i item) is (inv.rest i (get_or cursors i item) (omega arith) at)))
          (inv.counted studio run pulled) j counts (ap (λ l. slice_get l j) (sym pushed) ∙ there);
    }

pub returns : goal.returns
returns g c = λ studio run pulled.
    let inv = c.loop-number.invariant in
    let end : c.loop-number.number ≡ length c.args.cursors.now = omega (arith, c.loop-number-test.false, c.loop-number.auto.number-end) in
    record {
      count = inv.count ∙ end ∙ pulled.count;
      each = λ i stream counts is at. inv.counted studio run pulled i counts at stream is;
    }
