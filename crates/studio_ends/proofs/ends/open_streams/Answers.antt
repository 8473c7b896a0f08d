use Rattle.std.proofs.lemmas.Grind.{elements}
use Rattle.std.proofs.Common.{◌≡◌, ◌∙◌, arith, refl, subst, take, to_z, of_z, w64}
use Rattle.std.proofs.lemmas.Int.{to_z-of_z}
use Rattle.studio_ends.specs.Opening.{AreFreshEnds}
use Rattle.studio_ends.proofs.OpenLemmas.{ends-all, ends-more}
use Rattle.studio_ends.proofs.ends.open_streams.Goals as goal

pub loop-spec-preserved : goal.loop-spec-preserved
loop-spec-preserved c =
    let adds = c.in_ok-add_stream.ensures in (
      ends-more _ _ c.args.specs.now c.loop-spec.spec-index c.spec-item.result c.loop-spec.ends _ c.loop-spec-test.true c.spec-item.is c.loop-spec.invariant.0 adds.fresh,
      (λ h. adds.channels (c.loop-spec.invariant.1 h)),
      adds.wanted ∙ c.loop-spec.invariant.2,
    )

pub returns-clause-fresh : goal.returns-clause-fresh
returns-clause-fresh c =
    let z : to_z w64 (of_z w64 c.args.open_at) ≡ c.args.open_at = to_z-of_z w64 c.args.open_at c.ranges.open_at in
    ends-all _ _ c.args.specs.now c.loop-spec.spec-index c.loop-spec.ends (omega (arith, c.loop-spec-test.false, c.loop-spec.auto.spec-index-end))
    (subst (λ t. AreFreshEnds t c.args.ring_len (take c.loop-spec.spec-index c.args.specs.now) c.loop-spec.ends) z c.loop-spec.invariant.0)

pub returns-clause-channels : goal.returns-clause-channels
returns-clause-channels c = c.loop-spec.invariant.1

pub loop-spec-init : goal.loop-spec-init
loop-spec-init c = (grind (arith, elements), (λ h. rw (c.new.ensures.items, c.new-2.ensures.items) h), refl)
