use Rattle.std.proofs.Common.{◌≡◌, ◌<◌, ◌≤◌, length, get_or, Some, None, slice_get, subst, ◌∙◌, arith}
use Rattle.std.proofs.lemmas.List.Elements.{All-set}
use Rattle.std.proofs.lemmas.Option.{slice_get-get_or}
use Rattle.studio_session.specs.Cursor.{CursorState}
use Rattle.studio_session.specs.Play.{HasFilled}
use Rattle.studio_session.proofs.SessionLemmas.{plays_of, filled_more}
use Rattle.studio_engine.proofs.FillLemmas.{final_either}
use Rattle.studio_engine.proofs.next_block.fill.Goals as goal

pub loop-stream-preserved : goal.loop-stream-preserved
loop-stream-preserved c =
    let inv = c.loop-stream.invariant in
    let cursors = c.loop-stream.cursors in
    let i = c.loop-stream.stream in
    let long = c.loop-stream.auto.cursors in
    let within : i < length cursors = omega (arith, c.loop-stream-test.true, long) in
    let item = c.index-cursors-stream.result in
    let old = get_or cursors i item in
    let moved = c.pull_marks.new.cursor in
    let at : slice_get cursors i ≡ Some old = slice_get-get_or cursors i item within in
    record {
      stands = λ studio events next run taken played.
          let filled = inv.stands studio events next run taken played in
          let count = filled.played.count in
          let here : i < length filled.played.feeds = omega (arith, within, count) in
          let place : moved.place ≡ length events = c.pull_marks.ensures.kept.place ∙ inv.come (length events) taken i item within in
          let end : length events ≤ moved.place = omega (arith, place) in
          let plays = plays_of studio events c.loop-stream.mixer cursors next i old filled.played at in
          filled_more studio events c.loop-stream.mixer c.pull_marks.new.mixer cursors next i moved filled within
          (final_either studio events filled.played.feeds next i c.pull_marks.new.mixer moved c.pull_marks.result end
          (λ yes. c.pull_marks.ensures.out yes studio events filled.played.feeds next run here plays)
          (λ no. c.pull_marks.ensures.covered no studio events filled.played.feeds next run here plays));
      come = λ count before.
          let was = inv.come count before in
          All-set (λ (cursor : CursorState). cursor.place ≡ count) cursors i moved (c.pull_marks.ensures.kept.place ∙ was i item within) was;
      idle = λ before.
          let was = inv.idle before in
          All-set (λ (cursor : CursorState). cursor.reading ≡ None) cursors i moved (c.pull_marks.ensures.stays_idle (was i item within)) was;
      packer = c.pull_marks.ensures.packer ∙ inv.packer;
      streams = c.pull_marks.ensures.streams ∙ inv.streams;
      capacities = c.pull_marks.ensures.capacities ∙ inv.capacities;
    }

pub returns-clause-stands : goal.returns-clause-stands
returns-clause-stands c = λ studio events next run taken played.
    let end : c.loop-stream.stream ≡ length c.args.cursors.now = omega (arith, c.loop-stream-test.false, c.loop-stream.auto.stream-end) in
    subst (HasFilled studio events (record { mixer = c.loop-stream.mixer; cursors = c.loop-stream.cursors }) next) end
    (c.loop-stream.invariant.stands studio events next run taken played)
