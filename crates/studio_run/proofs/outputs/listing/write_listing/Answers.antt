use Rattle.std.proofs.Common.{◌≡◌, ◌<◌, Err, length, get_or, Some, slice_get, arith, rules}
use Rattle.std.proofs.lemmas.List.Elements.{All-set}
use Rattle.std.proofs.lemmas.Option.{slice_get-get_or}
use Rattle.studio_mix.proofs.MixerLemmas.{set_other_at}
use Rattle.studio_session.specs.Cursor.{IsReadyFor}
use Rattle.studio_run.specs.Listing.{stream_listing}
use Rattle.studio_run.proofs.BufferLemmas.{PassesOn-none}
use Rattle.studio_run.proofs.StudioListingLemmas.{all_pulled, new_at, none_pulled, one_more_pulled, texts_after, texts_all, texts_broken}
use Rattle.studio_run.proofs.outputs.listing.write_listing.Goals as goal

pub loop-number-init : goal.loop-number-init
loop-number-init g c = record {
  ready = c.requires.ready;
  rest = λ j cursor h at. at;
  wrote = λ studio run new. PassesOn-none _ _;
  pulled = λ studio run new. none_pulled studio (g.E.EventSource.events c.args.source.now) c.args.cursors.now;
}

pub loop-number-preserved : goal.loop-number-preserved
loop-number-preserved g c =
    let events = g.E.EventSource.events c.args.source.now in
    let inv = c.loop-number.invariant in
    let cursors = c.loop-number.cursors in
    let i = c.loop-number.number in
    let within : i < length cursors = omega (arith, c.loop-number-test.true, c.loop-number.auto.cursors) in
    let item = c.index-cursors-number.result in
    let at : slice_get cursors i ≡ Some (get_or cursors i item) = slice_get-get_or cursors i item within in
    record {
      ready = All-set (IsReadyFor events) cursors i c.write_marks.new.cursor c.write_marks.ensures.ready inv.ready;
      rest = λ j cursor h there. inv.rest j cursor (omega (arith, h)) (set_other_at cursors i j c.write_marks.new.cursor cursor (λ e. absurd (omega (arith, e, h))) there);
      wrote = λ studio run new.
          let own = new_at studio.streams studio.open_at c.args.cursors.now i (get_or cursors i item) new (inv.rest i (get_or cursors i item) (omega arith) at) in
          texts_after (stream_listing studio.open_at events) studio.streams i own.stream own.is _ _ _ _ _ _ (inv.wrote studio run new)
          (c.in_ok-write_marks.ensures.ok own.stream i studio.open_at (run.each i own.stream own.is) (own.pulled events));
      pulled = λ studio run new.
          let own = new_at studio.streams studio.open_at c.args.cursors.now i (get_or cursors i item) new (inv.rest i (get_or cursors i item) (omega arith) at) in
          one_more_pulled studio events cursors i c.write_marks.new.cursor own.stream own.is within (inv.pulled studio run new)
          (c.in_ok-write_marks.ensures.pulled own.stream i studio.open_at (run.each i own.stream own.is) (own.pulled events));
    }

pub returns-in_err-write_marks-clause-fault : goal.returns-in_err-write_marks-clause-fault
returns-in_err-write_marks-clause-fault g c =
    let events = g.E.EventSource.events c.args.source.now in
    let inv = c.loop-number.invariant in
    let cursors = c.loop-number.cursors in
    let i = c.loop-number.number in
    let within : i < length cursors = omega (arith, c.loop-number-test.true, c.loop-number.auto.cursors) in
    let item = c.index-cursors-number.result in
    let at : slice_get cursors i ≡ Some (get_or cursors i item) = slice_get-get_or cursors i item within in
    let is : c.from_residual.result ≡ Err c.in_err-write_marks.field-0.0 = search rules in
    rw is (λ studio run new.
    let own = new_at studio.streams studio.open_at c.args.cursors.now i (get_or cursors i item) new (inv.rest i (get_or cursors i item) (omega arith) at) in
    texts_broken (stream_listing studio.open_at events) studio.streams i own.stream own.is _ _ _ _ _ (inv.wrote studio run new)
    (c.in_err-write_marks.ensures.fault own.stream i studio.open_at (run.each i own.stream own.is) (own.pulled events)))

pub returns-clause-pulled : goal.returns-clause-pulled
returns-clause-pulled g c = λ studio run new.
    let end : c.loop-number.number ≡ length c.args.cursors.now = omega (arith, c.loop-number-test.false, c.loop-number.auto.number-end) in
    let count = new.count_is in
    let kept = c.loop-number.auto.cursors in
    all_pulled studio (g.E.EventSource.events c.args.source.now) c.loop-number.cursors c.loop-number.number (omega (arith, end, count, kept)) (omega (arith, end, count))
    (c.loop-number.invariant.pulled studio run new)

pub returns-clause-ok : goal.returns-clause-ok
returns-clause-ok g c = λ studio run new.
    let end : c.loop-number.number ≡ length c.args.cursors.now = omega (arith, c.loop-number-test.false, c.loop-number.auto.number-end) in
    let count = new.count_is in
    texts_all (stream_listing studio.open_at (g.E.EventSource.events c.args.source.now)) studio.streams c.loop-number.number (omega (arith, end, count)) _ _ _ _
    (c.loop-number.invariant.wrote studio run new)
