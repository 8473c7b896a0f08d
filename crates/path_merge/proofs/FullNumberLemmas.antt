-- A full number is recovered from its 16 bits, and the packet counts as it was sent.
use Rattle.std.proofs.Common.{◌≡◌, ℕ, ◌+◌, ◌<◌, ◌≤◌, Bool, true, false, ◌&&◌, List, [], ◌∷◌, ℤ, pos, ◌+ℤ◌, ◌-ℤ◌, ◌≤ℤ◌, ◌<ℤ◌, ⊎_elim, inl, inr, ◌⊎◌, unsigned_abs, refl, sym, ap, ◌∙◌, arith, if◌then◌else◌}
use Rattle.std.specs.Prelude.{int_le, int_lt, nat_eq, nat_le, nat_lt}
use Rattle.std.specs.Int.{int_rem_euclid}
use Rattle.std.proofs.lemmas.Bool.Decides.{nat_tests}
use Rattle.std.proofs.lemmas.Int.{ints}
use Rattle.path_merge.proofs.AliasLemmas.{off_grid, size_is}
use Rattle.rtp_stream.proofs.NearestLemmas.{IsNearest-nearest_number, nearest_number-only, rem_bounds}
use Rattle.path_merge.proofs.AnewLemmas.{itself_eq}
use Rattle.rtp_stream.specs.Grid.{extended_number, is_in_time, is_on_grid}
use Rattle.rtp_stream.specs.Nearest.{IsNearest, nearest_number}
use Rattle.rtp_stream.specs.Sent.{IsNear, SentPacket, timestamp_in_step, wire_packet}
use Rattle.rtp_stream.specs.declared.stream_spec.Stream.{Stream}
use Rattle.rtp_stream.specs.declared.anchor.Anchor.{Anchor}
use Rattle.rtp_stream.specs.declared.packet.Packet.{Packet}
use Rattle.rtp_wire.specs.PacketTime.{is_packet_time}

-- the low 16 bits of a number
abbrev low_bits_of : ℤ → ℕ
low_bits_of z = unsigned_abs (int_rem_euclid z (pos 65536))

low_bits_are : (z : ℤ) → int_rem_euclid z (pos 65536) ≡ pos (low_bits_of z)
low_bits_are z = sym (size_is (int_rem_euclid z (pos 65536)) (rem_bounds 65536 z (omega arith)).0)

low_bits_small : (z : ℤ) → low_bits_of z < 65536
low_bits_small z = omega (arith, ints, low_bits_are z, (rem_bounds 65536 z (omega arith)).1)

-- a number within half a cycle of another is the nearest to it with its low bits
pub number_recovered : (next : ℕ) (z : ℤ) → IsNear 32768 next z → nearest_number 32768 (low_bits_of z) (pos next) ≡ z
number_recovered next z near =
    let nearest : IsNearest 32768 (low_bits_of z) (pos next) z = record { low_bits = low_bits_are z; not_below = near.0; below = near.1 } in
    sym (nearest_number-only 32768 (low_bits_of z) (pos next) z (low_bits_small z) nearest)

le_same : (a b : ℕ) → nat_le a b ≡ int_le (pos a) (pos b)
le_same a b = by_test (nat_le a b) refl
  where
    by_test : (t : Bool) → nat_le a b ≡ t → t ≡ int_le (pos a) (pos b)
    by_test true is = let le : a ≤ b = grind (arith, nat_tests, is) in sym (grind (arith, ints, le))
    by_test false is = let lt : b < a = grind (arith, nat_tests, is) in sym (grind (arith, ints, lt))

lt_same : (a b : ℕ) → nat_lt a b ≡ int_lt (pos a) (pos b)
lt_same a b = by_test (nat_lt a b) refl
  where
    by_test : (t : Bool) → nat_lt a b ≡ t → t ≡ int_lt (pos a) (pos b)
    by_test true is = let lt : a < b = grind (arith, nat_tests, is) in sym (grind (arith, ints, lt))
    by_test false is = let le : b ≤ a = grind (arith, nat_tests, is) in sym (grind (arith, ints, le))

-- the copy of an arrival, if it counts
abbrev pub one_copy : Bool → ℕ → Packet → List (ℕ × Packet)
one_copy b n packet = if b then (n, packet) ∷ [] else []

-- the number lies from the one next due to the window's end
abbrev is_within : Stream → ℕ → ℤ → Bool
is_within stream next number = int_le (pos next) number && int_lt number (pos (next + stream.window))

-- a packet counts as received exactly as it does as sent
abbrev pub CountsAsSent : Stream → Anchor → ℕ → SentPacket → Type 0
CountsAsSent stream anchor next packet =
    one_copy (is_in_time stream anchor next (wire_packet stream anchor packet)) (extended_number (wire_packet stream anchor packet) next) (wire_packet stream anchor packet)
    ≡ one_copy (is_within stream next packet.number) (unsigned_abs packet.number) (wire_packet stream anchor packet)

module _ (stream : Stream) (anchor : Anchor) where
  -- within half a cycle, a received packet is on the grid, and has the number that it was sent as
  pub near_number : (next : ℕ) (packet : SentPacket) → IsNear 32768 next packet.number → extended_number (wire_packet stream anchor packet) next ≡ unsigned_abs packet.number
  near_number next packet near = ap unsigned_abs (number_recovered next packet.number near)

  pub near_on_grid : (next : ℕ) (packet : SentPacket) → 65536 ≤ next → IsNear 32768 next packet.number → is_on_grid stream anchor (extended_number (wire_packet stream anchor packet) next) (timestamp_in_step stream anchor packet.number) ≡ true
  near_on_grid next packet some near =
      let size = size_is packet.number (omega (arith, ints, near.0, some)) in
      ap (λ n. is_on_grid stream anchor n (timestamp_in_step stream anchor packet.number)) (near_number next packet near)
      ∙ ap (λ z. nat_eq (timestamp_in_step stream anchor packet.number) (timestamp_in_step stream anchor z)) size
      ∙ itself_eq (timestamp_in_step stream anchor packet.number)

  pub near_counts : (next : ℕ) (packet : SentPacket) → 65536 ≤ next → IsNear 32768 next packet.number → CountsAsSent stream anchor next packet
  near_counts next packet some near =
      let number = near_number next packet near in
      let size = size_is packet.number (omega (arith, ints, near.0, some)) in
      let low : nat_le next (unsigned_abs packet.number) ≡ int_le (pos next) packet.number = le_same next (unsigned_abs packet.number) ∙ ap (int_le (pos next)) size in
      let high : nat_lt (unsigned_abs packet.number) (next + stream.window) ≡ int_lt packet.number (pos (next + stream.window)) = lt_same (unsigned_abs packet.number) (next + stream.window) ∙ ap (λ z. int_lt z (pos (next + stream.window))) size in
      let within : (nat_le next (extended_number (wire_packet stream anchor packet) next) && nat_lt (extended_number (wire_packet stream anchor packet) next) (next + stream.window)) ≡ is_within stream next packet.number =
      ap (λ n. nat_le next n && nat_lt n (next + stream.window)) number ∙ ap (λ b. b && nat_lt (unsigned_abs packet.number) (next + stream.window)) low ∙ ap (λ b. int_le (pos next) packet.number && b) high in
      let in_time : is_in_time stream anchor next (wire_packet stream anchor packet) ≡ is_within stream next packet.number =
      ap (λ b. b && (is_on_grid stream anchor (extended_number (wire_packet stream anchor packet) next) (timestamp_in_step stream anchor packet.number) && (nat_le next (extended_number (wire_packet stream anchor packet) next) && nat_lt (extended_number (wire_packet stream anchor packet) next) (next + stream.window)))) (itself_eq anchor.source)
      ∙ ap (λ b. b && (nat_le next (extended_number (wire_packet stream anchor packet) next) && nat_lt (extended_number (wire_packet stream anchor packet) next) (next + stream.window))) (near_on_grid next packet some near)
      ∙ within in
      ap (λ b. one_copy b (extended_number (wire_packet stream anchor packet) next) (wire_packet stream anchor packet)) in_time
      ∙ ap (λ n. one_copy (is_within stream next packet.number) n (wire_packet stream anchor packet)) number

  -- farther away a packet is no copy in time, neither as sent nor as received: its timestamp is that of another number
  pub far_counts : is_packet_time stream.frames ≡ true → stream.window ≤ 16384 → (next : ℕ) (packet : SentPacket) → 65536 ≤ next → IsNear 33554432 next packet.number → CountsAsSent stream anchor next packet
  far_counts time narrow next packet some far = by_reach (int_le (pos next -ℤ pos 32768) packet.number) (int_lt packet.number (pos next +ℤ pos 32768)) refl refl
    where
      beyond : ((packet.number <ℤ (pos next -ℤ pos 32768)) ⊎ ((pos next +ℤ pos 32768) ≤ℤ packet.number)) → CountsAsSent stream anchor next packet
      beyond out =
          let near = IsNearest-nearest_number 32768 (low_bits_of packet.number) (pos next) (low_bits_small packet.number) in
          let size = size_is (nearest_number 32768 (low_bits_of packet.number) (pos next)) (omega (arith, ints, near.not_below, some)) in
          let same : int_rem_euclid (pos (extended_number (wire_packet stream anchor packet) next)) (pos 65536) ≡ int_rem_euclid packet.number (pos 65536) = ap (λ z. int_rem_euclid z (pos 65536)) size ∙ near.low_bits ∙ sym (low_bits_are packet.number) in
          let other : (pos (extended_number (wire_packet stream anchor packet) next) ≡ packet.number) → ⊥ = λ e. ⊎_elim (λ below. omega (arith, ints, e, size, below, near.not_below)) (λ above. omega (arith, ints, e, size, above, near.below)) out in
          let off : is_on_grid stream anchor (extended_number (wire_packet stream anchor packet) next) (timestamp_in_step stream anchor packet.number) ≡ false = off_grid stream anchor (extended_number (wire_packet stream anchor packet) next) packet.number time same (omega (arith, ints, size, near.below, far.0)) (omega (arith, ints, size, near.not_below, far.1)) other in
          let not_within : is_within stream next packet.number ≡ false = ⊎_elim (λ below. too_low below) (λ above. too_high above) out in
          let not_in_time : is_in_time stream anchor next (wire_packet stream anchor packet) ≡ false = rw (itself_eq anchor.source, off) refl in
          ap (λ b. one_copy b (extended_number (wire_packet stream anchor packet) next) (wire_packet stream anchor packet)) not_in_time
          ∙ ap (λ b. one_copy b (unsigned_abs packet.number) (wire_packet stream anchor packet)) (sym not_within)
        where
          too_low : packet.number <ℤ (pos next -ℤ pos 32768) → is_within stream next packet.number ≡ false
          too_low below = let no : int_le (pos next) packet.number ≡ false = grind (arith, ints, below) in rw no refl

          and_false : (b : Bool) → (b && false) ≡ false
          and_false true = refl
          and_false false = refl

          too_high : (pos next +ℤ pos 32768) ≤ℤ packet.number → is_within stream next packet.number ≡ false
          too_high above = let no : int_lt packet.number (pos (next + stream.window)) ≡ false = grind (arith, ints, above, narrow) in rw no (and_false (int_le (pos next) packet.number))

      by_reach : (b c : Bool) → int_le (pos next -ℤ pos 32768) packet.number ≡ b → int_lt packet.number (pos next +ℤ pos 32768) ≡ c → CountsAsSent stream anchor next packet
      by_reach true true e f = near_counts next packet some (grind (arith, ints, e), grind (arith, ints, f))
      by_reach false c e f = beyond (inl (grind (arith, ints, e)))
      by_reach true false e f = beyond (inr (grind (arith, ints, f)))
