use Rattle.std.proofs.Common.{◌≡◌, ◌-◌, Some, None, arith, subst}
use Rattle.path_merge.specs.MergeState.{MergeState}
use Rattle.path_merge.specs.NextMark.{anchor_after_close}
use Rattle.path_merge.proofs.SoundLemmas.{anchored_at}
use Rattle.path_merge.proofs.NextMarkLemmas.{left_is, left_none_is}
use Rattle.path_merge.proofs.merge.Merge.anchor_after_close.Goals as goal

pub returns-then-base-end : goal.returns-then-base-end
returns-then-base-end g c =
    let an = anchored_at _ c.self.inside.next_media c.self.inside.anchor c.in_ok-anchor.anchor c.in_ok-anchor.was c.self.invariant.anchored in
    subst (λ (m : MergeState). Some c.in_ok-anchor.anchor ≡ anchor_after_close m) c.self.view_is (left_is _ c.self.inside.next_media c.in_ok-anchor.anchor an c.in_ok-anchor.was (record {
      last = c.end.result - 1;
      from_base = omega (arith, c.base.ensures, c.if-base-end.true);
      is_held = c.end.ensures.reached (omega (arith, c.base.ensures, c.if-base-end.true));
    }))

pub returns-else-base-end : goal.returns-else-base-end
returns-else-base-end g c =
    let an = anchored_at _ c.self.inside.next_media c.self.inside.anchor c.in_ok-anchor.anchor c.in_ok-anchor.was c.self.invariant.anchored in
    subst (λ (m : MergeState). None ≡ anchor_after_close m) c.self.view_is (left_none_is _ c.self.inside.next_media c.in_ok-anchor.anchor an c.in_ok-anchor.was (λ n some. omega (arith, c.end.ensures.past_all n some, c.base.ensures, c.if-base-end.false)))
