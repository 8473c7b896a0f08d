use Rattle.std.proofs.Common.{◌≡◌, ◌<◌, ◌&&◌, length, get_or, Some, slice_get, refl, ap, ◌∙◌, arith}
use Rattle.std.proofs.lemmas.List.Elements.{All-set}
use Rattle.std.proofs.lemmas.Option.{slice_get-get_or}
use Rattle.studio_session.specs.Cursor.{CursorState}
use Rattle.studio_session.proofs.SessionLemmas.{plays_of}
use Rattle.studio_engine.proofs.KeepLemmas.{all_idle, played_more, idle_more}
use Rattle.studio_engine.proofs.early_marks.keep_early_marks.Goals as goal

pub loop-stream-init : goal.loop-stream-init
loop-stream-init c = record {
  stands = λ studio events next run played. played;
  full = λ studio events next awaited sized taken played. refl;
  come = λ count before. before;
  idle = λ yes i cursor h at. absurd (omega (arith, h));
  packer = cc;
  streams = cc;
  capacities = refl;
}

pub loop-stream-preserved : goal.loop-stream-preserved
loop-stream-preserved c =
    let inv = c.loop-stream.invariant in
    let cursors = c.loop-stream.cursors in
    let i = c.loop-stream.stream in
    let long = c.loop-stream.auto.cursors in
    let within : i < length cursors = omega (arith, c.loop-stream-test.true, long) in
    let item = c.index-cursors-stream.result in
    let old = get_or cursors i item in
    let moved = c.keep_marks-all.new.cursor in
    let at : slice_get cursors i ≡ Some old = slice_get-get_or cursors i item within in
    record {
      stands = λ studio events next run played.
          let before = inv.stands studio events next run played in
          let count = before.count in
          let here : i < length before.feeds = omega (arith, within, count) in
          played_more studio events c.loop-stream.mixer c.keep_marks-all.new.mixer cursors next i moved before within
          (c.keep_marks-all.ensures.stands studio events before.feeds next run here (plays_of studio events c.loop-stream.mixer cursors next i old before at));
      full = λ studio events next awaited sized taken played.
          let before = inv.stands studio events next awaited.runs played in
          let count = before.count in
          let here : i < length before.feeds = omega (arith, within, count) in
          let place : old.place ≡ length events = inv.come (length events) taken i item within in
          ap (λ b. b && c.keep_marks-all.result) (inv.full studio events next awaited sized taken played)
          ∙ c.keep_marks-all.ensures.all studio events before.feeds next awaited (record { capacities = inv.capacities ∙ sized.capacities }) here
          (plays_of studio events c.loop-stream.mixer cursors next i old before at) (omega (arith, place));
      come = λ count before.
          let was = inv.come count before in
          All-set (λ (cursor : CursorState). cursor.place ≡ count) cursors i moved (c.keep_marks-all.ensures.kept.place ∙ was i item within) was;
      idle = idle_more cursors i moved c.loop-stream.all c.keep_marks-all.result within inv.idle c.keep_marks-all.ensures.settled;
      packer = c.keep_marks-all.ensures.packer ∙ inv.packer;
      streams = c.keep_marks-all.ensures.streams ∙ inv.streams;
      capacities = c.keep_marks-all.ensures.capacities ∙ inv.capacities;
    }

pub returns-clause-idle : goal.returns-clause-idle
returns-clause-idle c = λ yes.
    let end = c.loop-stream.auto.stream-end in
    let long = c.loop-stream.auto.cursors in
    all_idle c.loop-stream.cursors c.loop-stream.stream (omega (arith, c.loop-stream-test.false, long, end)) (c.loop-stream.invariant.idle yes)
