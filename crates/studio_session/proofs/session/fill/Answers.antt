use Rattle.std.proofs.Common.{◌≡◌, ◌<◌, length, get_or, Some, slice_get, subst, ◌∙◌, arith}
use Rattle.std.proofs.lemmas.List.Elements.{All-set}
use Rattle.std.proofs.lemmas.Option.{slice_get-get_or}
use Rattle.studio_session.specs.Cursor.{IsReadyFor}
use Rattle.studio_session.specs.Play.{HasFilled}
use Rattle.studio_session.proofs.SessionLemmas.{plays_of, filled_more}
use Rattle.studio_session.proofs.session.fill.Goals as goal

pub loop-stream-preserved : goal.loop-stream-preserved
loop-stream-preserved g c =
    let events = g.E.EventSource.events c.args.source.now in
    let inv = c.loop-stream.invariant in
    let cursors = c.loop-stream.cursors in
    let i = c.loop-stream.stream in
    let long = c.loop-stream.auto.cursors in
    let within : i < length cursors = omega (arith, c.loop-stream-test.true, long) in
    let item = c.index-cursors-stream.result in
    let at : slice_get cursors i ≡ Some (get_or cursors i item) = slice_get-get_or cursors i item within in
    record {
      ready = All-set (IsReadyFor events) cursors i c.pull.new.cursor c.pull.ensures.ready inv.ready;
      stands = λ studio next run played.
          let filled = inv.stands studio next run played in
          let count = filled.played.count in
          filled_more studio events c.loop-stream.mixer c.pull.new.mixer cursors next i c.pull.new.cursor filled within
          (c.pull.ensures.stands studio filled.played.feeds next run (omega (arith, within, count))
          (plays_of studio events c.loop-stream.mixer cursors next i (get_or cursors i item) filled.played at));
      packer = c.pull.ensures.packer ∙ inv.packer;
      streams = c.pull.ensures.streams ∙ inv.streams;
    }

pub returns-clause-stands : goal.returns-clause-stands
returns-clause-stands g c = λ studio next run played.
    let events = g.E.EventSource.events c.args.source.now in
    let end : c.loop-stream.stream ≡ length c.args.cursors.now = omega (arith, c.loop-stream-test.false, c.loop-stream.auto.stream-end) in
    subst (HasFilled studio events (record { mixer = c.loop-stream.mixer; cursors = c.loop-stream.cursors }) next) end
    (c.loop-stream.invariant.stands studio next run played)
