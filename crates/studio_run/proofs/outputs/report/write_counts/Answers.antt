use Rattle.std.proofs.Common.{◌≡◌, ◌<◌, Err, length, get_or, Some, slice_get, arith, rules}
use Rattle.std.proofs.lemmas.List.Elements.{All-set}
use Rattle.std.proofs.lemmas.Option.{slice_get-get_or}
use Rattle.studio_mix.proofs.MixerLemmas.{set_other_at}
use Rattle.studio_session.specs.Cursor.{IsReadyFor}
use Rattle.studio_run.specs.Listing.{stream_counts_text}
use Rattle.studio_run.proofs.BufferLemmas.{PassesOn-none}
use Rattle.studio_run.proofs.StudioCountsLemmas.{pulled_at}
use Rattle.studio_run.proofs.StudioListingLemmas.{texts_after, texts_all, texts_broken}
use Rattle.studio_run.proofs.outputs.report.write_counts.Goals as goal

pub loop-number-init : goal.loop-number-init
loop-number-init g c = record {
  ready = c.requires.ready;
  rest = λ j cursor h at. at;
  wrote = λ studio run pulled. PassesOn-none _ _;
}

pub loop-number-preserved : goal.loop-number-preserved
loop-number-preserved g c =
    let events = g.E.EventSource.events c.args.source.now in
    let inv = c.loop-number.invariant in
    let cursors = c.loop-number.cursors in
    let i = c.loop-number.number in
    let within : i < length cursors = omega (arith, c.loop-number-test.true, c.loop-number.auto.cursors) in
    let item = c.index-cursors-number.result in
    let at : slice_get cursors i ≡ Some (get_or cursors i item) = slice_get-get_or cursors i item within in
    record {
      ready = All-set (IsReadyFor events) cursors i c.write_stream_counts.new.cursor c.write_stream_counts.ensures.ready inv.ready;
      rest = λ j cursor h there. inv.rest j cursor (omega (arith, h)) (set_other_at cursors i j c.write_stream_counts.new.cursor cursor (λ e. absurd (omega (arith, e, h))) there);
      wrote = λ studio run pulled.
          let own = pulled_at studio events c.args.cursors.now i (get_or cursors i item) pulled (inv.rest i (get_or cursors i item) (omega arith) at) in
          texts_after (stream_counts_text studio.open_at events) studio.streams i own.stream own.is _ _ _ _ _ _ (inv.wrote studio run pulled)
          (c.in_ok-write_stream_counts.ensures.ok own.stream i studio.open_at (run.each i own.stream own.is) own.pulled);
    }

pub returns-in_err-write_stream_counts-clause-fault : goal.returns-in_err-write_stream_counts-clause-fault
returns-in_err-write_stream_counts-clause-fault g c =
    let events = g.E.EventSource.events c.args.source.now in
    let inv = c.loop-number.invariant in
    let cursors = c.loop-number.cursors in
    let i = c.loop-number.number in
    let within : i < length cursors = omega (arith, c.loop-number-test.true, c.loop-number.auto.cursors) in
    let item = c.index-cursors-number.result in
    let at : slice_get cursors i ≡ Some (get_or cursors i item) = slice_get-get_or cursors i item within in
    let is : c.from_residual.result ≡ Err c.in_err-write_stream_counts.field-0.0 = search rules in
    rw is (λ studio run pulled.
    let own = pulled_at studio events c.args.cursors.now i (get_or cursors i item) pulled (inv.rest i (get_or cursors i item) (omega arith) at) in
    texts_broken (stream_counts_text studio.open_at events) studio.streams i own.stream own.is _ _ _ _ _ (inv.wrote studio run pulled)
    (c.in_err-write_stream_counts.ensures.fault own.stream i studio.open_at (run.each i own.stream own.is) own.pulled))

pub returns-clause-ok : goal.returns-clause-ok
returns-clause-ok g c = λ studio run pulled.
    let end : c.loop-number.number ≡ length c.args.cursors.now = omega (arith, c.loop-number-test.false, c.loop-number.auto.number-end) in
    let count = pulled.count in
    texts_all (stream_counts_text studio.open_at (g.E.EventSource.events c.args.source.now)) studio.streams c.loop-number.number (omega (arith, end, count)) _ _ _ _
    (c.loop-number.invariant.wrote studio run pulled)
