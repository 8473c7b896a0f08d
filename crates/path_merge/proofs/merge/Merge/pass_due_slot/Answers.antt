use Rattle.std.proofs.Common.{arith, ap, ◌∙◌}
use Rattle.std.proofs.lemmas.Int.{ints}
use Rattle.path_merge.specs.MergeState.{MergeState}
use Rattle.path_merge.proofs.SoundLemmas.{base_small, few_lost, space_for_got, due_times, sound_slot_is}
use Rattle.path_merge.proofs.StepLemmas.{slot_step_is}
use Rattle.path_merge.proofs.merge.Merge.pass_due_slot.Goals as goal

pub overflow_add-self : goal.overflow_add-self
overflow_add-self g c =
    let is_a = ap (λ (m : MergeState). m.anchor) c.self.view_is ∙ c.requires.anchored in
    let open_yet = ap (λ (m : MergeState). m.closed) c.self.view_is ∙ c.requires.open_yet in
    let t = due_times _ c.self.inside.next_media c.args.anchor c.self.invariant is_a open_yet in
    omega (arith, ints, t.media_low, t.media_high, t.small_latency, c.from.ensures, c.latency.ensures.value)

pub drop_slot-requires-clause-few : goal.drop_slot-requires-clause-few
drop_slot-requires-clause-few g c =
    let is_a = ap (λ (m : MergeState). m.anchor) c.self.view_is ∙ c.requires.anchored in
    few_lost _ c.self.inside.next_media c.args.anchor c.self.invariant is_a

pub overflow_add-self-2 : goal.overflow_add-self-2
overflow_add-self-2 g c =
    let is_a = ap (λ (m : MergeState). m.anchor) c.self.view_is ∙ c.requires.anchored in
    let open_yet = ap (λ (m : MergeState). m.closed) c.self.view_is ∙ c.requires.open_yet in
    let t = due_times _ c.self.inside.next_media c.args.anchor c.self.invariant is_a open_yet in
    omega (arith, ints, t.media_low, t.media_high, t.few_frames, c.from-2.ensures, c.frames.ensures.value)

pub drop_slot-requires-clause-number : goal.drop_slot-requires-clause-number
drop_slot-requires-clause-number g c =
    let is_a = ap (λ (m : MergeState). m.anchor) c.self.view_is ∙ c.requires.anchored in
    omega (arith, (base_small _ c.self.inside.next_media c.args.anchor c.self.invariant is_a).1)

pub drop_slot-requires-clause-held : goal.drop_slot-requires-clause-held
drop_slot-requires-clause-held g c =
    let is_a = ap (λ (m : MergeState). m.anchor) c.self.view_is ∙ c.requires.anchored in
    λ got. space_for_got _ c.self.inside.next_media c.args.anchor c.self.invariant is_a got

pub invariant_of-self : goal.invariant_of-self
invariant_of-self g c =
    let is_a = ap (λ (m : MergeState). m.anchor) c.self.view_is ∙ c.requires.anchored in
    let open_yet = ap (λ (m : MergeState). m.closed) c.self.view_is ∙ c.requires.open_yet in
    let t = due_times _ c.self.inside.next_media c.args.anchor c.self.invariant is_a open_yet in
    let soon = rw (← c.self.view_is) at c.requires.soon in
    sound_slot_is _ c.self.inside.next_media c.args.anchor _ _ _ _ _ _ c.self.invariant is_a open_yet soon
    c.drop_slot.ensures.held
    (omega (arith, ints, t.media_low, t.media_high, t.deadline, t.small_latency, c.from.ensures, c.latency.ensures.value))
    c.drop_slot.ensures.base
    c.drop_slot.ensures.size
    c.drop_slot.ensures.counted
    (omega (arith, ints, t.media_low, t.media_high, t.few_frames, c.from-2.ensures, c.frames.ensures.value))

pub returns : goal.returns
returns g c =
    let is_a = ap (λ (m : MergeState). m.anchor) c.self.view_is ∙ c.requires.anchored in
    let open_yet = ap (λ (m : MergeState). m.closed) c.self.view_is ∙ c.requires.open_yet in
    let t = due_times _ c.self.inside.next_media c.args.anchor c.self.invariant is_a open_yet in
    rw (← c.self.view_is) (slot_step_is _ _ c.args.anchor _ _ _ _ _
    c.drop_slot.ensures.held
    (omega (arith, ints, t.media_low, t.media_high, t.deadline, t.small_latency, c.from.ensures, c.latency.ensures.value))
    c.drop_slot.ensures.base
    c.drop_slot.ensures.size
    c.drop_slot.ensures.counted)
