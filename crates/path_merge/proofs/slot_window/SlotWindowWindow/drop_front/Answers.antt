use Rattle.std.proofs.lemmas.Grind.{elements}
use Rattle.std.proofs.Common.{◌≡◌, ◌+◌, ◌-◌, length, None, if◌then◌else◌, arith, ap, sym, ◌∙◌}
use Rattle.std.specs.Prelude.{nat_eq, slice_set}
use Rattle.path_merge.specs.SlotWindow.{SlotRing, place_at}
use Rattle.path_merge.proofs.SlotWindowLemmas.{held_is, take_ring, take_slot}
use Rattle.path_merge.proofs.slot_window.SlotWindowWindow.drop_front.Goals as goal

pub invariant_of-self : goal.invariant_of-self
invariant_of-self c =
    let ring : SlotRing = record { base = c.self.inside.base; front = c.self.inside.front; span = c.self.inside.span; slots = c.self.inside.slots.items } in
    let size : c.len.result ≡ length c.self.inside.slots.items = omega (arith, c.len.ensures, c.self.inside.slots.ok.0) in
    let front = c.place_after-self-inside.ensures.place ∙ ap (λ size. place_at c.self.inside.front size 1) size in
    let base = ap (λ (x : SlotRing). x.base) c.self.view_is in
    rw (front, c.saturating_sub-self-inside.ensures, c.free.ensures) (take_ring ring c.self.invariant (omega (arith, c.requires, base)))

pub returns-clause-held : goal.returns-clause-held
returns-clause-held c n =
    let ring : SlotRing = record { base = c.self.inside.base; front = c.self.inside.front; span = c.self.inside.span; slots = c.self.inside.slots.items } in
    let size : c.len.result ≡ length c.self.inside.slots.items = omega (arith, c.len.ensures, c.self.inside.slots.ok.0) in
    let front = c.place_after-self-inside.ensures.place ∙ ap (λ size. place_at c.self.inside.front size 1) size in
    rw (front, c.free.ensures, ← c.self.view_is) (held_is (record ring { base = ring.base + 1; front = place_at ring.front (length ring.slots) 1; span = ring.span - 1; slots = slice_set ring.slots ring.front None }) n
    ∙ take_slot ring c.self.invariant n ∙ ap (λ o. if nat_eq n ring.base then None else o) (sym (held_is ring n)))

pub returns-clause-size : goal.returns-clause-size
returns-clause-size c = grind (arith, elements)
