use Rattle.std.proofs.Common.{◌≡◌, ◌+◌, ◌<◌, ℕ, suc, arith, length, Some, None, drop, if◌then◌else◌, ap, sym, ◌∙◌, add-one}
use Rattle.rtp_stream.specs.Grid.{first_with}
use Rattle.path_merge.specs.SortedWindow.{SortedPackets, IsWithin}
use Rattle.std.specs.Prelude.{nat_eq}
use Rattle.path_merge.proofs.SortedLemmas.{get_entries, front_taken, front_absent, higher}
use Rattle.path_merge.proofs.sorted_window.SortedWindowWindow.drop_front.Goals as goal
use Rattle.path_merge.proofs.sorted_window.SortedWindowWindow.drop_front.Goals.{After-remove-first, Else-starts_with}

-- the first is taken
taken : (c : After-remove-first) → (first_with c.self.inside.base c.self.inside.packets.items ≡ Some c.remove-first.result.1) × IsWithin (suc c.self.inside.base) (c.self.inside.base + c.self.inside.size) (drop 1 c.self.inside.packets.items) × ((n : ℕ) → first_with n (drop 1 c.self.inside.packets.items) ≡ (if nat_eq n c.self.inside.base then None else first_with n c.self.inside.packets.items)) × (0 < length c.self.inside.packets.items)
taken c = front_taken c.self.inside.base (c.self.inside.base + c.self.inside.size) c.remove-first.result c.self.inside.packets.items c.self.invariant.within (rw c.deref.ensures.value at (sym c.starts_with.ensures ∙ c.if-starts_with.true)) c.remove-first.ensures.value

absent : (c : Else-starts_with) → (first_with c.self.inside.base c.self.inside.packets.items ≡ None) × IsWithin (suc c.self.inside.base) (c.self.inside.base + c.self.inside.size) c.self.inside.packets.items × ((n : ℕ) → first_with n c.self.inside.packets.items ≡ (if nat_eq n c.self.inside.base then None else first_with n c.self.inside.packets.items))
absent c = front_absent c.self.inside.base (c.self.inside.base + c.self.inside.size) c.self.inside.packets.items c.self.invariant.within (rw c.deref.ensures.value at (sym c.starts_with.ensures ∙ c.if-starts_with.false))

pub invariant_of-self : goal.invariant_of-self
invariant_of-self c =
    let base = ap (λ (h : SortedPackets). h.base) c.self.view_is in
    record {
      within = rw (add-one, c.remove-first.ensures.items) (higher _ _ _ _ (taken c).1 (omega arith));
      space = rw c.remove-first.ensures.capacity c.self.invariant.space;
      small = omega (arith, c.requires);
      narrow = c.self.invariant.narrow;
    }

pub invariant_of-self-else-starts_with : goal.invariant_of-self-else-starts_with
invariant_of-self-else-starts_with c =
    let base = ap (λ (h : SortedPackets). h.base) c.self.view_is in
    record {
      within = rw add-one (higher _ _ _ _ (absent (goal.at.invariant_of-self-else-starts_with c).Else-starts_with).1 (omega arith));
      space = c.self.invariant.space;
      small = omega (arith, c.requires);
      narrow = c.self.invariant.narrow;
    }

pub returns-then-starts_with-clause-held : goal.returns-then-starts_with-clause-held
returns-then-starts_with-clause-held c n = rw (c.remove-first.ensures.items, ← c.self.view_is) (simp get_entries ((taken c).2 n))

pub returns-else-starts_with-clause-held : goal.returns-else-starts_with-clause-held
returns-else-starts_with-clause-held c n = rw (← c.self.view_is) (simp get_entries ((absent (goal.at.returns-else-starts_with-clause-held c).Else-starts_with).2 n))
