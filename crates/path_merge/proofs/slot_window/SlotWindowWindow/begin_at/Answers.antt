use Rattle.std.proofs.Common.{◌≡◌, ◌+◌, ◌*◌, ◌<◌, ◌/◌, ◌%◌, ℕ, None, length, arith, sym, ap, ◌∙◌}
use Rattle.std.proofs.Math.Nat.{mod-add-div', mod-lt}
use Rattle.std.specs.Ordering.{nat_cmp}
use Rattle.std.specs.FinMap.{get, from_entries}
use Rattle.path_merge.specs.SlotWindow.{SlotRing, packets_in}
use Rattle.path_merge.proofs.SlotWindowLemmas.{held_is, moved_ring, moved_slot, slot_of}
use Rattle.path_merge.proofs.slot_window.SlotWindowWindow.begin_at.Goals as goal

pub invariant_of-self : goal.invariant_of-self
invariant_of-self c =
    let ring : SlotRing = record { base = c.self.inside.base; front = c.self.inside.front; span = c.self.inside.span; slots = c.self.inside.slots.items } in
    let none : (n : ℕ) → slot_of ring n ≡ None = λ n. sym (held_is ring n) ∙ ap (λ x. get (from_entries {R = nat_cmp} (packets_in x)) n) c.self.view_is ∙ c.requires.empty n in
    let size : c.len.result ≡ length c.self.inside.slots.items = omega (arith, c.len.ensures, c.self.inside.slots.ok.0) in
    let some : 0 < c.len.result = omega (arith, size, c.self.invariant.broad) in
    let remainder = ap (λ n. c.args.number % c.len.result + c.args.number / c.len.result * n) (sym size) ∙ mod-add-div' c.args.number c.len.result in
    moved_ring ring c.self.invariant none c.args.number (c.args.number % c.len.result) (c.args.number / c.len.result) (omega (arith, mod-lt c.args.number some, size)) remainder (omega (arith, c.requires.small))

pub returns-clause-held : goal.returns-clause-held
returns-clause-held c n =
    let ring : SlotRing = record { base = c.self.inside.base; front = c.self.inside.front; span = c.self.inside.span; slots = c.self.inside.slots.items } in
    let none : (n : ℕ) → slot_of ring n ≡ None = λ n. sym (held_is ring n) ∙ ap (λ x. get (from_entries {R = nat_cmp} (packets_in x)) n) c.self.view_is ∙ c.requires.empty n in
    held_is (record ring { base = c.args.number; front = c.args.number % c.len.result }) n ∙ moved_slot ring c.self.invariant none c.args.number (c.args.number % c.len.result) n
