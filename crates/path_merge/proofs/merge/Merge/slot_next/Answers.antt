use Rattle.std.proofs.lemmas.Grind.{elements}
use Rattle.std.proofs.Common.{arith, ap, ◌∙◌}
use Rattle.std.proofs.lemmas.Int.{ints}
use Rattle.path_merge.specs.MergeState.{MergeState}
use Rattle.path_merge.proofs.SoundLemmas.{base_fits, media_small}
use Rattle.path_merge.proofs.NextMarkLemmas.{short_body}
use Rattle.path_merge.proofs.merge.Merge.slot_next.Goals as goal

pub slot-requires-clause-time : goal.slot-requires-clause-time
slot-requires-clause-time g c =
    let is_a = ap (λ (m : MergeState). m.anchor) c.self.view_is ∙ c.requires.anchored in
    let t = media_small _ c.self.inside.next_media c.args.anchor c.self.invariant is_a in
    (omega (arith, ints, t.1, t.2), omega (arith, ints, t.1, t.2))

pub slot-requires-clause-len : goal.slot-requires-clause-len
slot-requires-clause-len g c =
    let is_a = ap (λ (m : MergeState). m.anchor) c.self.view_is ∙ c.requires.anchored in
    rw (c.format.ensures.value, c.octets_of-payload.ensures, c.front.ensures) (base_fits _ c.self.inside.next_media c.args.anchor c.self.invariant is_a)

pub slot-requires-clause-short : goal.slot-requires-clause-short
slot-requires-clause-short g c =
    let is_a = ap (λ (m : MergeState). m.anchor) c.self.view_is ∙ c.requires.anchored in
    rw (c.octets_of-payload.ensures, c.front.ensures) (short_body _ _ (base_fits _ c.self.inside.next_media c.args.anchor c.self.invariant is_a) c.self.invariant.spec_ok.short)

pub slot-requires-clause-epoch : goal.slot-requires-clause-epoch
slot-requires-clause-epoch c = grind (arith, elements)
