use Rattle.std.proofs.Common.{◌≡◌, ◌+◌, ◌-◌, ◌<◌, ◌≤◌, ℕ, arith, length, Some, IsSome}
use Rattle.rtp_stream.specs.Grid.{first_with}
use Rattle.path_merge.proofs.SortedLemmas.{get_entries, none_in_empty, last_is_greatest}
use Rattle.path_merge.proofs.sorted_window.SortedWindowWindow.end.Goals as goal
use Rattle.path_merge.proofs.sorted_window.SortedWindowWindow.end.Goals.{In-Some}

-- the last packet has the greatest number
greatest : (c : In-Some) → (c.self.inside.base ≤ c.in-Some.entry.now.0) × (c.in-Some.entry.now.0 < c.self.inside.base + c.self.inside.size) × (first_with c.in-Some.entry.now.0 c.self.inside.packets.items ≡ Some c.in-Some.entry.now.1) × ((n : ℕ) → IsSome (first_with n c.self.inside.packets.items) → n ≤ c.in-Some.entry.now.0)
greatest c =
    last_is_greatest _ _ (length c.self.inside.packets.items - 1) c.in-Some.entry.now _ c.self.invariant.within (omega (arith, (rw c.deref.ensures.value at c.in-Some.ensures.item).3.0)) (rw c.deref.ensures.value at c.in-Some.ensures.item).1

pub overflow_add-result : goal.overflow_add-result
overflow_add-result c = omega (arith, (greatest c).1, c.self.invariant.small, c.self.invariant.narrow)

pub returns-in-Some-clause-not_below : goal.returns-in-Some-clause-not_below
returns-in-Some-clause-not_below c = rw (← c.self.view_is) (omega (arith, (greatest c).0))

pub returns-in-Some-clause-within : goal.returns-in-Some-clause-within
returns-in-Some-clause-within c = rw (← c.self.view_is) (omega (arith, (greatest c).1))

pub returns-in-Some-clause-past_all : goal.returns-in-Some-clause-past_all
returns-in-Some-clause-past_all c = rw (← c.self.view_is) (λ n some. omega (arith, (greatest c).3 n (rw get_entries at some)))

pub returns-in-Some-clause-reached : goal.returns-in-Some-clause-reached
returns-in-Some-clause-reached c = rw (← c.self.view_is) (λ lt.
    let same : c.in-Some.entry.now.0 + 1 - 1 ≡ c.in-Some.entry.now.0 = omega arith in
    rw (same, get_entries, (greatest c).2))

pub returns-in-None-clause-past_all : goal.returns-in-None-clause-past_all
returns-in-None-clause-past_all c = rw (← c.self.view_is) (λ n some. grind (arith, none_in_empty c.self.inside.packets.items n (rw c.deref.ensures.value at c.in-None.ensures.item).3, rw get_entries at some))
