use Rattle.std.proofs.Common.{◌≡◌, Some, pos, ◌+ℤ◌, arith, ap, ◌∙◌, to_z, of_z, w64}
use Rattle.std.proofs.lemmas.Int.{ints}
use Rattle.path_merge.specs.Steps.{next_deadline_of}
use Rattle.path_merge.proofs.SoundLemmas.{due_times, next_deadline_is}
use Rattle.path_merge.proofs.merge.Merge.next_deadline.Goals as goal

pub returns : goal.returns
returns g c =
    let is_a : c.self.inside.anchor ≡ Some c.in_ok-self.field-0 = c.in_ok-self.was in
    let t = due_times _ c.self.inside.next_media c.in_ok-self.field-0 c.self.invariant is_a c.if-self.false in
    let sum : to_z w64 (of_z w64 (to_z w64 (of_z w64 c.self.inside.next_media) +ℤ to_z w64 (of_z w64 c.from.result))) ≡ c.self.inside.next_media +ℤ pos c.self.inside.spec.latency = omega (arith, ints, t.media_low, t.media_high, t.small_latency, c.from.ensures, c.latency.ensures.value) in
    ap (λ z. Some z) sum ∙ next_deadline_is _ c.self.inside.next_media c.in_ok-self.field-0 c.self.invariant is_a c.if-self.false ∙ ap next_deadline_of c.self.view_is
