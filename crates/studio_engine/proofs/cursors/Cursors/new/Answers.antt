use Rattle.std.proofs.Common.{length, sym, subst}
use Rattle.studio_session.specs.Play.{AreNew}
use Rattle.studio_engine.proofs.CursorsLemmas.{at_come, behind_come, new_come}
use Rattle.studio_engine.proofs.cursors.Cursors.new.Goals as goal

pub invariant_of-result : goal.invariant_of-result
invariant_of-result c = behind_come 0 c.in_ok-cursors.cursors.items (new_come c.args.spec.now.streams c.args.spec.now.open_at c.in_ok-cursors.cursors.items c.in_ok-cursors.ensures.new)

pub returns-clause-new : goal.returns-clause-new
returns-clause-new c =
    let streams = c.args.spec.now.streams in
    let open_at = c.args.spec.now.open_at in
    let cursors = c.in_ok-cursors.cursors.items in
    subst (λ l. AreNew streams open_at l (length streams)) (sym (at_come 0 cursors (new_come streams open_at cursors c.in_ok-cursors.ensures.new))) c.in_ok-cursors.ensures.new
