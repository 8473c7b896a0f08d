use Rattle.std.proofs.Common.{rules, refl}
use Rattle.studio_ends.proofs.LookLemmas.{looked_to-none, looked_to-more, looked_to-all, not_open}
use Rattle.studio_ends.proofs.rings.drained.any_path_open.Goals as goal

pub loop-place-init : goal.loop-place-init
loop-place-init c = (looked_to-none _ _, refl)

pub loop-place-preserved : goal.loop-place-preserved
loop-place-preserved c =
    let e = c.is_drained-drained.ensures in (
      looked_to-more _ _ _ _ _ c.index_mut.result.now c.is_drained-drained.new.self _ _ (search rules) (search rules) c.index_mut.ensures.value
          (record { ring = e.ring.0; received_is = e.ring.1; done = e.done }) (not_open _ e.drained) c.loop-place.invariant.0,
      c.loop-place.invariant.1,
    )

pub returns-clause-looked : goal.returns-clause-looked
returns-clause-looked c = (looked_to-all _ _ _ _ _ _ (search rules) (search rules) c.requires.clear c.loop-place.invariant.0).0

pub returns-clause-told : goal.returns-clause-told
returns-clause-told c = (looked_to-all _ _ _ _ _ _ (search rules) (search rules) c.requires.clear c.loop-place.invariant.0).1

pub returns-clause-any : goal.returns-clause-any
returns-clause-any c = (looked_to-all _ _ _ _ _ _ (search rules) (search rules) c.requires.clear c.loop-place.invariant.0).2
