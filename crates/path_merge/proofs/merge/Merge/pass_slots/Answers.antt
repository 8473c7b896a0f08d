use Rattle.std.proofs.Common.{◌≡◌, ◌+◌, ◌-◌, ◌*◌, ap, subst, sym, arith, ◌∙◌, refl}
use Rattle.std.proofs.lemmas.Int.{ints}
use Rattle.rtp_stream.specs.Anchor.{media_time_of}
use Rattle.path_merge.specs.MergeState.{MergeState}
use Rattle.path_merge.specs.Window.{IsEmpty}
use Rattle.path_merge.proofs.PassLostLemmas.{lost_times, passed_is, sound_passed_is}
use Rattle.path_merge.proofs.merge.Merge.pass_slots.Goals as goal

pub overflow_mul-before_last : goal.overflow_mul-before_last
overflow_mul-before_last g c =
    let is_a = ap (λ (m : MergeState). m.anchor) c.self.view_is ∙ c.requires.anchored in
    let open_yet = ap (λ (m : MergeState). m.closed) c.self.view_is ∙ c.requires.open_yet in
    let soon = rw (← c.self.view_is) at c.requires.soon in
    let t = lost_times _ c.self.inside.next_media c.args.anchor c.self.invariant is_a open_yet (c.args.count - 1) soon in
    let product = ap (λ f. (c.args.count - 1) * f) (c.from.ensures ∙ c.frames-frames.ensures.value) in
    omega (arith, product, t.length)

pub overflow_cast-last : goal.overflow_cast-last
overflow_cast-last g c =
    let is_a = ap (λ (m : MergeState). m.anchor) c.self.view_is ∙ c.requires.anchored in
    let open_yet = ap (λ (m : MergeState). m.closed) c.self.view_is ∙ c.requires.open_yet in
    let soon = rw (← c.self.view_is) at c.requires.soon in
    let t = lost_times _ c.self.inside.next_media c.args.anchor c.self.invariant is_a open_yet (c.args.count - 1) soon in
    let product = ap (λ f. (c.args.count - 1) * f) (c.from.ensures ∙ c.frames-frames.ensures.value) in
    omega (arith, ints, product, t.length)

pub overflow_add-last : goal.overflow_add-last
overflow_add-last g c =
    let is_a = ap (λ (m : MergeState). m.anchor) c.self.view_is ∙ c.requires.anchored in
    let open_yet = ap (λ (m : MergeState). m.closed) c.self.view_is ∙ c.requires.open_yet in
    let soon = rw (← c.self.view_is) at c.requires.soon in
    let t = lost_times _ c.self.inside.next_media c.args.anchor c.self.invariant is_a open_yet (c.args.count - 1) soon in
    let product = ap (λ f. (c.args.count - 1) * f) (c.from.ensures ∙ c.frames-frames.ensures.value) in
    omega (arith, ints, product, t.length, t.media_low, t.media_high)

pub overflow_add-self : goal.overflow_add-self
overflow_add-self g c =
    let is_a = ap (λ (m : MergeState). m.anchor) c.self.view_is ∙ c.requires.anchored in
    let open_yet = ap (λ (m : MergeState). m.closed) c.self.view_is ∙ c.requires.open_yet in
    let soon = rw (← c.self.view_is) at c.requires.soon in
    let t = lost_times _ c.self.inside.next_media c.args.anchor c.self.invariant is_a open_yet (c.args.count - 1) soon in
    let product = ap (λ f. (c.args.count - 1) * f) (c.from.ensures ∙ c.frames-frames.ensures.value) in
    omega (arith, ints, product, t.length, t.media_low, t.media_high, c.from-2.ensures, c.latency.type_inv)

pub overflow_add-self-2 : goal.overflow_add-self-2
overflow_add-self-2 g c =
    let is_a = ap (λ (m : MergeState). m.anchor) c.self.view_is ∙ c.requires.anchored in
    let open_yet = ap (λ (m : MergeState). m.closed) c.self.view_is ∙ c.requires.open_yet in
    let soon = rw (← c.self.view_is) at c.requires.soon in
    let t = lost_times _ c.self.inside.next_media c.args.anchor c.self.invariant is_a open_yet (c.args.count - 1) soon in
    let product = ap (λ f. (c.args.count - 1) * f) (c.from.ensures ∙ c.frames-frames.ensures.value) in
    omega (arith, ints, product, t.length, t.media_low, t.media_high, c.from-3.ensures, c.frames-frames.type_inv)

pub overflow_add-self-3 : goal.overflow_add-self-3
overflow_add-self-3 g c =
    let is_a = ap (λ (m : MergeState). m.anchor) c.self.view_is ∙ c.requires.anchored in
    let open_yet = ap (λ (m : MergeState). m.closed) c.self.view_is ∙ c.requires.open_yet in
    let soon = rw (← c.self.view_is) at c.requires.soon in
    let t = lost_times _ c.self.inside.next_media c.args.anchor c.self.invariant is_a open_yet (c.args.count - 1) soon in
    omega (arith, t.lost, c.requires.some)

pub overflow_add-next : goal.overflow_add-next
overflow_add-next g c =
    let is_a = ap (λ (m : MergeState). m.anchor) c.self.view_is ∙ c.requires.anchored in
    let open_yet = ap (λ (m : MergeState). m.closed) c.self.view_is ∙ c.requires.open_yet in
    let soon = rw (← c.self.view_is) at c.requires.soon in
    let t = lost_times _ c.self.inside.next_media c.args.anchor c.self.invariant is_a open_yet (c.args.count - 1) soon in
    omega (arith, t.small, c.base.ensures, c.requires.some)

pub begin_at-requires-clause-empty : goal.begin_at-requires-clause-empty
begin_at-requires-clause-empty g c = subst (λ (m : MergeState). IsEmpty m.held) (sym c.self.view_is) c.requires.empty

pub begin_at-requires-clause-small : goal.begin_at-requires-clause-small
begin_at-requires-clause-small g c =
    let is_a = ap (λ (m : MergeState). m.anchor) c.self.view_is ∙ c.requires.anchored in
    let open_yet = ap (λ (m : MergeState). m.closed) c.self.view_is ∙ c.requires.open_yet in
    let soon = rw (← c.self.view_is) at c.requires.soon in
    let t = lost_times _ c.self.inside.next_media c.args.anchor c.self.invariant is_a open_yet (c.args.count - 1) soon in
    omega (arith, t.small, c.base.ensures, c.requires.some)

pub invariant_of-self : goal.invariant_of-self
invariant_of-self g c =
    let is_a = ap (λ (m : MergeState). m.anchor) c.self.view_is ∙ c.requires.anchored in
    let open_yet = ap (λ (m : MergeState). m.closed) c.self.view_is ∙ c.requires.open_yet in
    let empty = subst (λ (m : MergeState). IsEmpty m.held) (sym c.self.view_is) c.requires.empty in
    let soon = rw (← c.self.view_is) at c.requires.soon in
    let t = lost_times _ c.self.inside.next_media c.args.anchor c.self.invariant is_a open_yet (c.args.count - 1) soon in
    let product = ap (λ f. (c.args.count - 1) * f) (c.from.ensures ∙ c.frames-frames.ensures.value) in
    let count : c.args.count - 1 + 1 ≡ c.args.count = omega (arith, c.requires.some) in
    let next = ap (λ n. media_time_of c.self.inside.spec c.args.anchor (g.V.Window.base c.self.inside.window + n)) count in
    sound_passed_is _ c.self.inside.next_media c.args.anchor c.self.invariant is_a open_yet empty c.args.count (g.V.Window.held c.begin_at.new.self) _ _ _ _ _ c.requires.some c.begin_at.ensures.held soon
    (omega (arith, ints, product, t.length, t.media_low, t.media_high, t.last, c.from-2.ensures, c.latency.type_inv, c.latency.ensures.value))
    (omega (arith, c.begin_at.ensures.base, c.base.ensures))
    c.begin_at.ensures.size
    refl
    (omega (arith, ints, product, t.length, t.media_low, t.media_high, t.next, next, c.from-3.ensures, c.frames-frames.type_inv, c.frames-frames.ensures.value))

pub returns : goal.returns
returns g c =
    let is_a = ap (λ (m : MergeState). m.anchor) c.self.view_is ∙ c.requires.anchored in
    let open_yet = ap (λ (m : MergeState). m.closed) c.self.view_is ∙ c.requires.open_yet in
    let empty = subst (λ (m : MergeState). IsEmpty m.held) (sym c.self.view_is) c.requires.empty in
    let soon = rw (← c.self.view_is) at c.requires.soon in
    let t = lost_times _ c.self.inside.next_media c.args.anchor c.self.invariant is_a open_yet (c.args.count - 1) soon in
    let product = ap (λ f. (c.args.count - 1) * f) (c.from.ensures ∙ c.frames-frames.ensures.value) in
    rw (← c.self.view_is) (passed_is _ c.self.inside.next_media c.args.anchor c.self.invariant is_a open_yet empty c.args.count (g.V.Window.held c.begin_at.new.self) _ _ _ _ c.requires.some c.begin_at.ensures.held
    (omega (arith, ints, product, t.length, t.media_low, t.media_high, t.last, c.from-2.ensures, c.latency.type_inv, c.latency.ensures.value))
    (omega (arith, c.begin_at.ensures.base, c.base.ensures))
    c.begin_at.ensures.size
    refl)
