-- The packets in a ring of slots, and those that are left after a put, a take and a move.
use Rattle.rtp_stream.specs.Grid.{first_with}
use Rattle.std.proofs.Common.{◌≡◌, ℕ, zero, suc, ◌+◌, ◌-◌, ◌*◌, ◌^◌, ◌<◌, ◌≤◌, max, Bool, true, false, ◌&&◌, List, ◌++◌, length, replicate, if◌then◌else◌, Option, Some, None, IsSome, refl, sym, ap, subst, ◌∙◌, arith}
use Rattle.std.specs.Prelude.{nat_eq, nat_lt, nat_le, slice_index_or, slice_set}
use Rattle.std.proofs.lemmas.Bool.Decides.{nat_tests}
use Rattle.std.proofs.lemmas.List.{length-replicate, length-set}
use Rattle.std.specs.Ordering.{nat_cmp}
use Rattle.std.specs.FinMap.{get, from_entries}
use Rattle.path_merge.proofs.RingLemmas.{place_apart, place_back, place_first, place_inside, place_next, slot_none, slot_outside, slot_read, slot_set}
use Rattle.path_merge.proofs.SortedLemmas.{get_entries}
use Rattle.path_merge.specs.SlotWindow.{IsRing, SlotRing, numbered, packets_from, packets_in, place_at, slot_at}
use Rattle.rtp_stream.specs.declared.packet.Packet.{Packet}

-- a number's packet, if it is in the ring
abbrev pub slot_of : SlotRing → ℕ → Option Packet
slot_of ring n = if nat_le ring.base n && nat_lt n (ring.base + length ring.slots) then slot_at ring.slots (place_at ring.front (length ring.slots) (n - ring.base)) else None

first_numbered : (n number : ℕ) (slot : Option Packet) (rest : List (ℕ × Packet)) → first_with n (numbered number slot ++ rest) ≡ (if nat_eq number n then elim slot [ None ↦ first_with n rest | Some p ↦ Some p ] else first_with n rest)
first_numbered n number None rest = both (nat_eq number n)
  where
    both : (b : Bool) → first_with n rest ≡ (if b then first_with n rest else first_with n rest)
    both true = refl
    both false = refl
first_numbered n number (Some p) rest = refl

-- the slot of a number from low to below high
abbrev pub value_in : List (Option Packet) → ℕ → ℕ → ℕ → ℕ → ℕ → Option Packet
value_in slots front base low high n = if nat_le low n && nat_lt n high then slot_at slots (place_at front (length slots) (n - base)) else None

found_step : (slots : List (Option Packet)) (front base distance count n : ℕ) (rest : Option Packet) → rest ≡ value_in slots front base (base + suc distance) (base + suc distance + count) n → (b : Bool) → nat_eq (base + distance) n ≡ b → (slot : Option Packet) → slot_at slots (place_at front (length slots) distance) ≡ slot → (if b then elim slot [ None ↦ rest | Some p ↦ Some p ] else rest) ≡ value_in slots front base (base + distance) (base + distance + suc count) n
found_step slots front base distance count n rest is_rest false is slot at =
    let low : nat_le (base + suc distance) n ≡ nat_le (base + distance) n = grind (arith, nat_tests, is) in
    let high : nat_lt n (base + suc distance + count) ≡ nat_lt n (base + distance + suc count) = grind (arith, nat_tests) in
    is_rest ∙ ap (λ b. if b && nat_lt n (base + suc distance + count) then slot_at slots (place_at front (length slots) (n - base)) else None) low ∙ ap (λ b. if nat_le (base + distance) n && b then slot_at slots (place_at front (length slots) (n - base)) else None) high
found_step slots front base distance count n rest is_rest true is slot at = of_slot slot at
  where
    here : n - base ≡ distance
    here = grind (arith, nat_tests, is)

    inside : (nat_le (base + distance) n && nat_lt n (base + distance + suc count)) ≡ true
    inside = grind (arith, nat_tests, is)

    value : value_in slots front base (base + distance) (base + distance + suc count) n ≡ slot_at slots (place_at front (length slots) distance)
    value = ap (λ b. if b then slot_at slots (place_at front (length slots) (n - base)) else None) inside ∙ ap (λ d. slot_at slots (place_at front (length slots) d)) here

    later : (nat_le (base + suc distance) n && nat_lt n (base + suc distance + count)) ≡ false
    later = grind (arith, nat_tests, is)

    of_slot : (o : Option Packet) → slot_at slots (place_at front (length slots) distance) ≡ o → (elim o [ None ↦ rest | Some p ↦ Some p ]) ≡ value_in slots front base (base + distance) (base + distance + suc count) n
    of_slot None at = is_rest ∙ ap (λ b. if b then slot_at slots (place_at front (length slots) (n - base)) else None) later ∙ sym at ∙ sym value
    of_slot (Some p) at = sym at ∙ sym value

pub found_from : (slots : List (Option Packet)) (front base distance count n : ℕ) → first_with n (packets_from slots front base distance count) ≡ value_in slots front base (base + distance) (base + distance + count) n
found_from slots front base distance zero n = grind (arith, nat_tests)
found_from slots front base distance (suc count) n =
    first_numbered n (base + distance) (slot_at slots (place_at front (length slots) distance)) (packets_from slots front base (suc distance) count)
    ∙ found_step slots front base distance count n _ (found_from slots front base (suc distance) count n) (nat_eq (base + distance) n) refl (slot_at slots (place_at front (length slots) distance)) refl

-- the packets in the map of a window
pub held_is : (ring : SlotRing) (n : ℕ) → get (from_entries {R = nat_cmp} (packets_in ring)) n ≡ slot_of ring n
held_is ring n =
    let low : ring.base + 0 ≡ ring.base = omega arith in
    get_entries (packets_in ring) n ∙ found_from ring.slots ring.front ring.base 0 (length ring.slots) n ∙ ap (λ b. if nat_le b n && nat_lt n (b + length ring.slots) then slot_at ring.slots (place_at ring.front (length ring.slots) (n - ring.base)) else None) low

-- one slot that is set, by distances
module _ (ring : SlotRing) (r : IsRing ring) where
  pub set_at : (distance d : ℕ) (o : Option Packet) → distance < length ring.slots → d < length ring.slots → slot_at (slice_set ring.slots (place_at ring.front (length ring.slots) distance) o) (place_at ring.front (length ring.slots) d) ≡ (if nat_eq d distance then o else slot_at ring.slots (place_at ring.front (length ring.slots) d))
  set_at distance d o lt lt' =
      slot_set ring.slots (place_at ring.front (length ring.slots) distance) (place_at ring.front (length ring.slots) d) o (place_inside ring.front (length ring.slots) distance r.front lt)
      ∙ by_test (nat_eq d distance) (nat_eq (place_at ring.front (length ring.slots) d) (place_at ring.front (length ring.slots) distance)) refl refl
    where
      by_test : (b c : Bool) → nat_eq d distance ≡ b → nat_eq (place_at ring.front (length ring.slots) d) (place_at ring.front (length ring.slots) distance) ≡ c → (if c then o else slot_at ring.slots (place_at ring.front (length ring.slots) d)) ≡ (if b then o else slot_at ring.slots (place_at ring.front (length ring.slots) d))
      by_test true true b c = refl
      by_test false false b c = refl
      by_test true false b c =
          let same : d ≡ distance = grind (arith, nat_tests, b) in
          let places : nat_eq (place_at ring.front (length ring.slots) d) (place_at ring.front (length ring.slots) distance) ≡ true = grind (arith, nat_tests, ap (place_at ring.front (length ring.slots)) same) in
          absurd (true_not_false (sym places ∙ c))
        where
          true_not_false : true ≡ false → ⊥
          true_not_false e = cc
      by_test false true b c =
          let places : place_at ring.front (length ring.slots) d ≡ place_at ring.front (length ring.slots) distance = grind (arith, nat_tests, c) in
          let same = place_apart ring.front (length ring.slots) d distance r.front lt' lt places in
          absurd (grind (arith, nat_tests, same, b))

  -- a packet that is put, if its slot is free
  module _ (distance : ℕ) (lt : distance < length ring.slots) (packet : Packet) where
    pub put_ring : IsRing (record ring { slots = slice_set ring.slots (place_at ring.front (length ring.slots) distance) (Some packet); span = max ring.span (distance + 1) })
    put_ring = record {
      front = rw same r.front;
      rounds = r.rounds;
      remainder = rw same r.remainder;
      within = rw same (omega (arith, r.within, lt));
      past = λ d after inside. rw same (put_past d after (rw same at inside));
      reached = λ some. rw same (put_reached some);
      broad = rw same r.broad;
      small = r.small;
      narrow = rw same r.narrow;
    }
      where
        same : length (slice_set ring.slots (place_at ring.front (length ring.slots) distance) (Some packet)) ≡ length ring.slots
        same = length-set ring.slots (place_at ring.front (length ring.slots) distance) (Some packet)

        put_past : (d : ℕ) → max ring.span (distance + 1) ≤ d → d < length ring.slots → slot_at (slice_set ring.slots (place_at ring.front (length ring.slots) distance) (Some packet)) (place_at ring.front (length ring.slots) d) ≡ None
        put_past d after inside =
            let other : nat_eq d distance ≡ false = grind (arith, nat_tests, after) in
            set_at distance d (Some packet) lt inside ∙ ap (λ b. if b then Some packet else slot_at ring.slots (place_at ring.front (length ring.slots) d)) other ∙ r.past d (omega (arith, after)) inside

        put_reached : 0 < max ring.span (distance + 1) → IsSome (slot_at (slice_set ring.slots (place_at ring.front (length ring.slots) distance) (Some packet)) (place_at ring.front (length ring.slots) (max ring.span (distance + 1) - 1)))
        put_reached some = by_test (nat_lt (distance + 1) ring.span) refl
          where
            last : (d : ℕ) → d ≡ max ring.span (distance + 1) - 1 → d < length ring.slots → IsSome (if nat_eq d distance then Some packet else slot_at ring.slots (place_at ring.front (length ring.slots) d)) → IsSome (slot_at (slice_set ring.slots (place_at ring.front (length ring.slots) distance) (Some packet)) (place_at ring.front (length ring.slots) (max ring.span (distance + 1) - 1)))
            last d is inside held = subst (λ x. IsSome (slot_at (slice_set ring.slots (place_at ring.front (length ring.slots) distance) (Some packet)) (place_at ring.front (length ring.slots) x))) is (subst IsSome (sym (set_at distance d (Some packet) lt inside)) held)

            by_test : (b : Bool) → nat_lt (distance + 1) ring.span ≡ b → IsSome (slot_at (slice_set ring.slots (place_at ring.front (length ring.slots) distance) (Some packet)) (place_at ring.front (length ring.slots) (max ring.span (distance + 1) - 1)))
            by_test true is =
                let more : distance + 1 < ring.span = grind (arith, nat_tests, is) in
                let other : nat_eq (ring.span - 1) distance ≡ false = grind (arith, nat_tests, more) in
                last (ring.span - 1) (omega (arith, more)) (omega (arith, more, r.within)) (subst (λ b. IsSome (if b then Some packet else slot_at ring.slots (place_at ring.front (length ring.slots) (ring.span - 1)))) (sym other) (r.reached (omega (arith, more))))
            by_test false is =
                let most : ring.span ≤ distance + 1 = grind (arith, nat_tests, is) in
                let here : nat_eq distance distance ≡ true = grind (arith, nat_tests) in
                last distance (omega (arith, most)) lt (subst (λ b. IsSome (if b then Some packet else slot_at ring.slots (place_at ring.front (length ring.slots) distance))) (sym here) refl)

    pub put_slot : (n : ℕ) → slot_of (record ring { slots = slice_set ring.slots (place_at ring.front (length ring.slots) distance) (Some packet); span = max ring.span (distance + 1) }) n ≡ (if nat_eq n (ring.base + distance) then Some packet else slot_of ring n)
    put_slot n = rw (length-set ring.slots (place_at ring.front (length ring.slots) distance) (Some packet)) (by_test (nat_le ring.base n && nat_lt n (ring.base + length ring.slots)) refl)
      where
        by_test : (b : Bool) → (nat_le ring.base n && nat_lt n (ring.base + length ring.slots)) ≡ b → (if b then slot_at (slice_set ring.slots (place_at ring.front (length ring.slots) distance) (Some packet)) (place_at ring.front (length ring.slots) (n - ring.base)) else None) ≡ (if nat_eq n (ring.base + distance) then Some packet else if b then slot_at ring.slots (place_at ring.front (length ring.slots) (n - ring.base)) else None)
        by_test true is =
            let low : ring.base ≤ n = grind (arith, nat_tests, is) in
            let high : n < ring.base + length ring.slots = grind (arith, nat_tests, is) in
            let same : nat_eq (n - ring.base) distance ≡ nat_eq n (ring.base + distance) = grind (arith, nat_tests, low) in
            set_at distance (n - ring.base) (Some packet) lt (omega (arith, low, high)) ∙ ap (λ b. if b then Some packet else slot_at ring.slots (place_at ring.front (length ring.slots) (n - ring.base))) same
        by_test false is =
            let other : nat_eq n (ring.base + distance) ≡ false = grind (arith, nat_tests, is, lt) in
            ap (λ b. if b then Some packet else None) (sym other)

  -- the slots, counted from the next front, after the slot of the front was emptied
  pub next_slot : (d : ℕ) → d < length ring.slots → slot_at (slice_set ring.slots ring.front None) (place_at (place_at ring.front (length ring.slots) 1) (length ring.slots) d) ≡ (if nat_lt (d + 1) (length ring.slots) then slot_at ring.slots (place_at ring.front (length ring.slots) (d + 1)) else None)
  next_slot d inside =
      ap (slot_at (slice_set ring.slots ring.front None)) (place_next ring.front (length ring.slots) d r.front r.broad inside)
      ∙ by_test (nat_lt (d + 1) (length ring.slots)) refl
    where
      first : place_at ring.front (length ring.slots) 0 ≡ ring.front
      first = place_first ring.front (length ring.slots) r.front

      by_test : (b : Bool) → nat_lt (d + 1) (length ring.slots) ≡ b → slot_at (slice_set ring.slots ring.front None) (if b then place_at ring.front (length ring.slots) (d + 1) else ring.front) ≡ (if b then slot_at ring.slots (place_at ring.front (length ring.slots) (d + 1)) else None)
      by_test true is =
          let other : nat_eq (d + 1) 0 ≡ false = grind (arith, nat_tests) in
          ap (λ i. slot_at (slice_set ring.slots i None) (place_at ring.front (length ring.slots) (d + 1))) (sym first) ∙ set_at 0 (d + 1) None (omega (arith, r.broad)) (grind (arith, nat_tests, is)) ∙ ap (λ b. if b then None else slot_at ring.slots (place_at ring.front (length ring.slots) (d + 1))) other
      by_test false is =
          let here : nat_eq ring.front ring.front ≡ true = grind (arith, nat_tests) in
          slot_set ring.slots ring.front ring.front None r.front ∙ ap (λ b. if b then None else slot_at ring.slots ring.front) here

  -- the ring after its front was taken
  pub take_ring : ring.base < 2 ^ 62 → IsRing (record ring { base = ring.base + 1; front = place_at ring.front (length ring.slots) 1; span = ring.span - 1; slots = slice_set ring.slots ring.front None })
  take_ring few = record {
    front = rw same (place_inside ring.front (length ring.slots) 1 r.front r.broad);
    rounds = rounds_after;
    remainder = rw same (next_remainder (nat_lt (ring.front + 1) (length ring.slots)) refl);
    within = rw same (omega (arith, r.within));
    past = λ d after inside. rw same (take_past d after (rw same at inside));
    reached = λ some. rw same (take_reached some);
    broad = rw same r.broad;
    small = omega (arith, few);
    narrow = rw same r.narrow;
  }
    where
      same : length (slice_set ring.slots ring.front None) ≡ length ring.slots
      same = length-set ring.slots ring.front None

      rounds_after : ℕ
      rounds_after = if nat_lt (ring.front + 1) (length ring.slots) then r.rounds else suc r.rounds

      next_remainder : (b : Bool) → nat_lt (ring.front + 1) (length ring.slots) ≡ b → (if b then ring.front + 1 else ring.front + 1 - length ring.slots) + (if b then r.rounds else suc r.rounds) * length ring.slots ≡ ring.base + 1
      next_remainder true is = omega (arith, r.remainder)
      next_remainder false is =
          let last : ring.front + 1 ≡ length ring.slots = grind (arith, nat_tests, is, r.front) in
          let none : ring.front + 1 - length ring.slots ≡ 0 = omega (arith, last) in
          let more : suc r.rounds * length ring.slots ≡ length ring.slots + r.rounds * length ring.slots = omega arith in
          omega (arith, none, more, last, r.remainder)

      take_past : (d : ℕ) → ring.span - 1 ≤ d → d < length ring.slots → slot_at (slice_set ring.slots ring.front None) (place_at (place_at ring.front (length ring.slots) 1) (length ring.slots) d) ≡ None
      take_past d after inside = next_slot d inside ∙ by_test (nat_lt (d + 1) (length ring.slots)) refl
        where
          by_test : (b : Bool) → nat_lt (d + 1) (length ring.slots) ≡ b → (if b then slot_at ring.slots (place_at ring.front (length ring.slots) (d + 1)) else None) ≡ None
          by_test true is = r.past (d + 1) (omega (arith, after)) (grind (arith, nat_tests, is))
          by_test false is = refl

      take_reached : 0 < ring.span - 1 → IsSome (slot_at (slice_set ring.slots ring.front None) (place_at (place_at ring.front (length ring.slots) 1) (length ring.slots) (ring.span - 1 - 1)))
      take_reached some =
          let here : ring.span - 1 - 1 + 1 ≡ ring.span - 1 = omega (arith, some) in
          let less : nat_lt (ring.span - 1 - 1 + 1) (length ring.slots) ≡ true = grind (arith, nat_tests, some, r.within) in
          subst IsSome (sym (next_slot (ring.span - 1 - 1) (omega (arith, r.within, some)))) (subst (λ b. IsSome (if b then slot_at ring.slots (place_at ring.front (length ring.slots) (ring.span - 1 - 1 + 1)) else None)) (sym less) (subst (λ d. IsSome (slot_at ring.slots (place_at ring.front (length ring.slots) d))) (sym here) (r.reached (omega (arith, some)))))

  pub take_slot : (n : ℕ) → slot_of (record ring { base = ring.base + 1; front = place_at ring.front (length ring.slots) 1; span = ring.span - 1; slots = slice_set ring.slots ring.front None }) n ≡ (if nat_eq n ring.base then None else slot_of ring n)
  take_slot n = rw (length-set ring.slots ring.front None) (by_test (nat_le (ring.base + 1) n && nat_lt n (ring.base + 1 + length ring.slots)) refl)
    where
      by_test : (b : Bool) → (nat_le (ring.base + 1) n && nat_lt n (ring.base + 1 + length ring.slots)) ≡ b → (if b then slot_at (slice_set ring.slots ring.front None) (place_at (place_at ring.front (length ring.slots) 1) (length ring.slots) (n - (ring.base + 1))) else None) ≡ (if nat_eq n ring.base then None else slot_of ring n)
      by_test true is =
          let low : ring.base + 1 ≤ n = grind (arith, nat_tests, is) in
          let high : n < ring.base + 1 + length ring.slots = grind (arith, nat_tests, is) in
          let here : n - (ring.base + 1) + 1 ≡ n - ring.base = omega (arith, low) in
          let other : nat_eq n ring.base ≡ false = grind (arith, nat_tests, low) in
          let range : (nat_le ring.base n && nat_lt n (ring.base + length ring.slots)) ≡ nat_lt (n - ring.base) (length ring.slots) = grind (arith, nat_tests, low) in
          next_slot (n - (ring.base + 1)) (omega (arith, low, high))
          ∙ ap (λ d. if nat_lt d (length ring.slots) then slot_at ring.slots (place_at ring.front (length ring.slots) d) else None) here
          ∙ ap (λ b. if b then slot_at ring.slots (place_at ring.front (length ring.slots) (n - ring.base)) else None) (sym range)
          ∙ ap (λ b. if b then None else slot_of ring n) (sym other)
      by_test false is = by_base (nat_eq n ring.base) refl
        where
          by_base : (b : Bool) → nat_eq n ring.base ≡ b → None ≡ (if b then None else slot_of ring n)
          by_base true e = refl
          by_base false e =
              let outside : (nat_le ring.base n && nat_lt n (ring.base + length ring.slots)) ≡ false = grind (arith, nat_tests, is, e) in
              ap (λ b. if b then slot_at ring.slots (place_at ring.front (length ring.slots) (n - ring.base)) else None) (sym outside)

  pub front_slot : slot_of ring ring.base ≡ slot_at ring.slots ring.front
  front_slot =
      let inside : (nat_le ring.base ring.base && nat_lt ring.base (ring.base + length ring.slots)) ≡ true = grind (arith, nat_tests, r.broad) in
      let here : ring.base - ring.base ≡ 0 = omega arith in
      ap (λ b. if b then slot_at ring.slots (place_at ring.front (length ring.slots) (ring.base - ring.base)) else None) inside ∙ ap (λ d. slot_at ring.slots (place_at ring.front (length ring.slots) d)) here ∙ ap (slot_at ring.slots) (place_first ring.front (length ring.slots) r.front)

  -- a number's slot is as far after the front as the number is after the base
  pub slot_here : (n : ℕ) → ring.base ≤ n → n < ring.base + length ring.slots → slot_of ring n ≡ slot_at ring.slots (place_at ring.front (length ring.slots) (n - ring.base))
  slot_here n low high =
      let inside : (nat_le ring.base n && nat_lt n (ring.base + length ring.slots)) ≡ true = grind (arith, nat_tests, low, high) in
      ap (λ b. if b then slot_at ring.slots (place_at ring.front (length ring.slots) (n - ring.base)) else None) inside

  -- numbers with packets are before the end
  pub past_end : (n : ℕ) → IsSome (slot_of ring n) → n < ring.base + ring.span
  past_end n some = by_test (nat_le ring.base n && nat_lt n (ring.base + length ring.slots)) refl some
    where
      by_test : (b : Bool) → (nat_le ring.base n && nat_lt n (ring.base + length ring.slots)) ≡ b → IsSome (if b then slot_at ring.slots (place_at ring.front (length ring.slots) (n - ring.base)) else None) → n < ring.base + ring.span
      by_test false is some = cc
      by_test true is some = by_span (nat_lt (n - ring.base) ring.span) refl
        where
          low : ring.base ≤ n
          low = grind (arith, nat_tests, is)

          high : n < ring.base + length ring.slots
          high = grind (arith, nat_tests, is)

          by_span : (b : Bool) → nat_lt (n - ring.base) ring.span ≡ b → n < ring.base + ring.span
          by_span true e = grind (arith, nat_tests, e, low)
          by_span false e =
              let after : ring.span ≤ n - ring.base = grind (arith, nat_tests, e) in
              absurd (not_some (r.past (n - ring.base) after (omega (arith, low, high))) some)
            where
              not_some : {o : Option Packet} → o ≡ None → IsSome o → ⊥
              not_some e some = cc

  pub last_held : 0 < ring.span → IsSome (slot_of ring (ring.base + ring.span - 1))
  last_held some =
      let here : ring.base + ring.span - 1 - ring.base ≡ ring.span - 1 = omega (arith, some) in
      subst IsSome (sym (slot_here (ring.base + ring.span - 1) (omega (arith, some)) (omega (arith, some, r.within)) ∙ ap (λ d. slot_at ring.slots (place_at ring.front (length ring.slots) d)) here)) (r.reached some)

  -- an empty ring may move to any base
  module _ (none : (n : ℕ) → slot_of ring n ≡ None) where
    pub all_free : (i : ℕ) → slot_at ring.slots i ≡ None
    all_free i = by_test (nat_lt i (length ring.slots)) refl
      where
        by_test : (b : Bool) → nat_lt i (length ring.slots) ≡ b → slot_at ring.slots i ≡ None
        by_test true is =
            let back = place_back ring.front (length ring.slots) i r.front (grind (arith, nat_tests, is)) in
            let here : ring.base + back.0 - ring.base ≡ back.0 = omega arith in
            sym (slot_here (ring.base + back.0) (omega arith) (omega (arith, back.1)) ∙ ap (λ d. slot_at ring.slots (place_at ring.front (length ring.slots) d)) here ∙ ap (slot_at ring.slots) back.2) ∙ none (ring.base + back.0)
        by_test false is = slot_outside ring.slots i (grind (arith, nat_tests, is))

    pub moved_ring : (base front rounds : ℕ) → front < length ring.slots → front + rounds * length ring.slots ≡ base → base ≤ 2 ^ 62 → IsRing (record ring { base = base; front = front })
    moved_ring base front rounds inside remainder few = record {
      front = inside;
      rounds = rounds;
      remainder = remainder;
      within = r.within;
      past = λ d after lt. all_free (place_at front (length ring.slots) d);
      reached = λ some. absurd (not_some (all_free (place_at ring.front (length ring.slots) (ring.span - 1))) (r.reached some));
      broad = r.broad;
      small = few;
      narrow = r.narrow;
    }
      where
        not_some : {o : Option Packet} → o ≡ None → IsSome o → ⊥
        not_some e some = cc

    pub moved_slot : (base front n : ℕ) → slot_of (record ring { base = base; front = front }) n ≡ None
    moved_slot base front n = by_test (nat_le base n && nat_lt n (base + length ring.slots))
      where
        by_test : (b : Bool) → (if b then slot_at ring.slots (place_at front (length ring.slots) (n - base)) else None) ≡ None
        by_test true = all_free (place_at front (length ring.slots) (n - base))
        by_test false = refl

-- a new ring
pub made_ring : (width : ℕ) → 8 ≤ width → width ≤ 16384 → IsRing (record { base = 0; front = 0; span = 0; slots = replicate width None })
made_ring width broad narrow = record {
  front = rw (length-replicate width (the_none)) (omega (arith, broad));
  rounds = 0;
  remainder = omega arith;
  within = omega arith;
  past = λ d after inside. slot_none width _;
  reached = λ some. absurd (omega (arith, some));
  broad = rw (length-replicate width the_none) (omega (arith, broad));
  small = omega arith;
  narrow = rw (length-replicate width the_none) (omega (arith, narrow));
}
  where
    the_none : Option Packet
    the_none = None

pub made_slot : (width n : ℕ) → slot_of (record { base = 0; front = 0; span = 0; slots = replicate width None }) n ≡ None
made_slot width n = by_test (nat_le 0 n && nat_lt n (0 + length (replicate width the_none)))
  where
    the_none : Option Packet
    the_none = None

    by_test : (b : Bool) → (if b then slot_at (replicate width None) (place_at 0 (length (replicate width the_none)) (n - 0)) else None) ≡ None
    by_test true = slot_none width _
    by_test false = refl

-- the place of a number of the window
pub put_place : (ring seen : SlotRing) (number : ℕ) → ring ≡ seen → seen.base ≤ number → number < seen.base + length seen.slots → (ring.base ≤ number) × (number - ring.base < length ring.slots) × (ring.base + (number - ring.base) ≡ number)
put_place ring seen number same low high =
    let base = ap (λ (x : SlotRing). x.base) same in
    let size = ap (λ (x : SlotRing). length x.slots) same in
    (omega (arith, base, low), omega (arith, base, size, low, high), omega (arith, base, low))

pub read_here : (ring : SlotRing) (r : IsRing ring) (number i : ℕ) (now : Option Packet) → ring.base ≤ number → number - ring.base < length ring.slots → i ≡ place_at ring.front (length ring.slots) (number - ring.base) → now ≡ slice_index_or ring.slots i now → slot_of ring number ≡ now
read_here ring r number i now low inside is read =
    let here = place_inside ring.front (length ring.slots) (number - ring.base) r.front inside in
    slot_here ring r number low (omega (arith, low, inside)) ∙ ap (slot_at ring.slots) (sym is)
    ∙ sym (slot_read ring.slots i now (subst (λ j. j < length ring.slots) (sym is) here)) ∙ sym read
