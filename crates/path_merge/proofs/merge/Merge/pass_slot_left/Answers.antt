use Rattle.std.proofs.Common.{arith, ap, sym, subst, refl, ◌∙◌}
use Rattle.std.proofs.lemmas.Int.{ints}
use Rattle.path_merge.specs.MergeState.{MergeState}
use Rattle.path_merge.specs.Steps.{HoldsMore}
use Rattle.path_merge.proofs.SoundLemmas.{base_small, few_lost, media_small, space_for_got, sound_left_is}
use Rattle.path_merge.proofs.merge.Merge.pass_slot_left.Goals as goal

pub overflow_add-self : goal.overflow_add-self
overflow_add-self g c =
    let is_a = ap (λ (m : MergeState). m.anchor) c.self.view_is ∙ c.requires.anchored in
    let t = media_small _ c.self.inside.next_media c.args.anchor c.self.invariant is_a in
    omega (arith, ints, t.1, t.2, t.3, c.from.ensures, c.frames.ensures.value)

pub drop_slot-requires-clause-number : goal.drop_slot-requires-clause-number
drop_slot-requires-clause-number g c =
    let is_a = ap (λ (m : MergeState). m.anchor) c.self.view_is ∙ c.requires.anchored in
    omega (arith, (base_small _ c.self.inside.next_media c.args.anchor c.self.invariant is_a).1)

pub drop_slot-requires-clause-few : goal.drop_slot-requires-clause-few
drop_slot-requires-clause-few g c =
    let is_a = ap (λ (m : MergeState). m.anchor) c.self.view_is ∙ c.requires.anchored in
    few_lost _ c.self.inside.next_media c.args.anchor c.self.invariant is_a

pub invariant_of-self : goal.invariant_of-self
invariant_of-self g c =
    let holds = subst HoldsMore (sym c.self.view_is) c.requires.more in
    let shut = ap (λ (m : MergeState). m.closed) c.self.view_is ∙ c.requires.closed in
    let is_a = ap (λ (m : MergeState). m.anchor) c.self.view_is ∙ c.requires.anchored in
    let t = media_small _ c.self.inside.next_media c.args.anchor c.self.invariant is_a in
    sound_left_is _ c.self.inside.next_media c.args.anchor _ _ _ _ _ c.self.invariant is_a shut holds
    c.drop_slot.ensures.held
    c.drop_slot.ensures.base
    c.drop_slot.ensures.size
    c.drop_slot.ensures.counted
    (omega (arith, ints, t.1, t.2, t.3, c.from.ensures, c.frames.ensures.value))

pub drop_slot-requires-clause-held : goal.drop_slot-requires-clause-held
drop_slot-requires-clause-held g c =
    let is_a = ap (λ (m : MergeState). m.anchor) c.self.view_is ∙ c.requires.anchored in
    λ got. space_for_got _ c.self.inside.next_media c.args.anchor c.self.invariant is_a got

pub returns : goal.returns
returns g c =
    rw (← c.self.view_is) (record {
      held = c.drop_slot.ensures.held;
      changed = rw (c.drop_slot.ensures.base, c.drop_slot.ensures.size, c.drop_slot.ensures.counted) refl;
    })
