use Rattle.std.proofs.Common.{◌+◌, sym, subst, to_z, of_z, w64}
use Rattle.studio_session.specs.Play.{AreNew}
use Rattle.studio_session.proofs.NewLemmas.{new_more}
use Rattle.studio_session.proofs.session.new_cursors.Goals as goal

pub loop-number-preserved : goal.loop-number-preserved
loop-number-preserved c =
    let open_at = to_z w64 (of_z w64 c.args.open_at) in
    let i = c.loop-number.number in
    subst (λ l. AreNew c.args.streams.now open_at l (i + 1)) (sym c.in_ok-push.ensures.items)
    (new_more c.args.streams.now open_at c.loop-number.cursors.items i c.index-streams-number.result c.in_ok-cursor.cursor c.loop-number.invariant c.index-streams-number.is c.in_ok-cursor.ensures.first c.in_ok-cursor.ensures.settled c.in_ok-cursor.ensures.stands)
