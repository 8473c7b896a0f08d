-- Numbers with one sequence number have other timestamps, less than 1,024 cycles apart.
use Rattle.std.proofs.Common.{◌≡◌, ℕ, ◌+◌, ◌*◌, Bool, true, false, ℤ, pos, ◌+ℤ◌, ◌-ℤ◌, ◌*ℤ◌, ◌≤ℤ◌, ◌<ℤ◌, unsigned_abs, refl, sym, ap, subst, ◌∙◌, arith}
use Rattle.std.specs.Prelude.{nat_eq}
use Rattle.std.specs.Int.{int_rem_euclid}
use Rattle.std.proofs.lemmas.Bool.Decides.{nat_tests}
use Rattle.std.proofs.lemmas.Int.{ints}
use Rattle.rtp_stream.proofs.NearestLemmas.{rem_apart, rem_bounds}
use Rattle.rtp_stream.specs.Grid.{is_on_grid}
use Rattle.rtp_stream.specs.Sent.{timestamp_in_step}
use Rattle.rtp_stream.specs.declared.stream_spec.Stream.{Stream}
use Rattle.rtp_stream.specs.declared.anchor.Anchor.{Anchor}
use Rattle.rtp_wire.specs.PacketTime.{is_packet_time}

-- what is shown of each packet time holds for all
packet_time_cases : (P : ℕ → Type 0) → P 6 → P 12 → P 16 → P 48 → P 192 → (frames : ℕ) → is_packet_time frames ≡ true → P frames
packet_time_cases P p6 p12 p16 p48 p192 frames is = by_6 (nat_eq frames 6) refl
  where
    by_48 : (b : Bool) → nat_eq frames 48 ≡ b → nat_eq frames 6 ≡ false → nat_eq frames 12 ≡ false → nat_eq frames 16 ≡ false → P frames
    by_48 true e no6 no12 no16 = let same : frames ≡ 48 = grind (arith, nat_tests, e) in subst P (sym same) p48
    by_48 false e no6 no12 no16 =
        let last : nat_eq frames 192 ≡ true = rw (no6, no12, no16, e) at is in
        let same : frames ≡ 192 = grind (arith, nat_tests, last) in
        subst P (sym same) p192

    by_16 : (b : Bool) → nat_eq frames 16 ≡ b → nat_eq frames 6 ≡ false → nat_eq frames 12 ≡ false → P frames
    by_16 true e no6 no12 = let same : frames ≡ 16 = grind (arith, nat_tests, e) in subst P (sym same) p16
    by_16 false e no6 no12 = by_48 (nat_eq frames 48) refl no6 no12 e

    by_12 : (b : Bool) → nat_eq frames 12 ≡ b → nat_eq frames 6 ≡ false → P frames
    by_12 true e no6 = let same : frames ≡ 12 = grind (arith, nat_tests, e) in subst P (sym same) p12
    by_12 false e no6 = by_16 (nat_eq frames 16) refl no6 e

    by_6 : (b : Bool) → nat_eq frames 6 ≡ b → P frames
    by_6 true e = let same : frames ≡ 6 = grind (arith, nat_tests, e) in subst P (sym same) p6
    by_6 false e = by_12 (nat_eq frames 12) refl e

-- two numbers with the same low 16 bits, whose times differ by whole cycles of 32 bits
abbrev pub IsOneNumber : ℕ → Type 0
IsOneNumber frames =
    (m n : ℤ) (start first i j k l : ℕ) → (pos start +ℤ (m -ℤ pos first) *ℤ pos frames) +ℤ pos (i * 4294967296) ≡ (pos start +ℤ (n -ℤ pos first) *ℤ pos frames) +ℤ pos (j * 4294967296)
    → m +ℤ pos (k * 65536) ≡ n +ℤ pos (l * 65536) → m <ℤ (n +ℤ pos 67108864) → n <ℤ (m +ℤ pos 67108864) → m ≡ n

one_6 : IsOneNumber 6
one_6 m n start first i j k l e same less more = omega (arith, ints, e, same, less, more)

one_12 : IsOneNumber 12
one_12 m n start first i j k l e same less more = omega (arith, ints, e, same, less, more)

one_16 : IsOneNumber 16
one_16 m n start first i j k l e same less more = omega (arith, ints, e, same, less, more)

one_48 : IsOneNumber 48
one_48 m n start first i j k l e same less more = omega (arith, ints, e, same, less, more)

one_192 : IsOneNumber 192
one_192 m n start first i j k l e same less more = omega (arith, ints, e, same, less, more)

-- a number that isn't negative is its size
pub size_is : (z : ℤ) → pos 0 ≤ℤ z → pos (unsigned_abs z) ≡ z
size_is z h = omega (arith, ints, h)

-- less than 1,024 cycles apart, a number is known by its low 16 bits and its timestamp
pub one_number : (stream : Stream) (anchor : Anchor) (m n : ℤ) → is_packet_time stream.frames ≡ true → int_rem_euclid m (pos 65536) ≡ int_rem_euclid n (pos 65536) → m <ℤ (n +ℤ pos 67108864) → n <ℤ (m +ℤ pos 67108864) → timestamp_in_step stream anchor m ≡ timestamp_in_step stream anchor n → m ≡ n
one_number stream anchor m n time same less more stamps =
    let a = rem_apart 4294967296 (pos anchor.timestamp +ℤ (m -ℤ pos anchor.number) *ℤ pos stream.frames) (omega arith) in
    let b = rem_apart 4294967296 (pos anchor.timestamp +ℤ (n -ℤ pos anchor.number) *ℤ pos stream.frames) (omega arith) in
    let low_m = rem_apart 65536 m (omega arith) in
    let low_n = rem_apart 65536 n (omega arith) in
    let rest : int_rem_euclid (pos anchor.timestamp +ℤ (m -ℤ pos anchor.number) *ℤ pos stream.frames) (pos 4294967296) ≡ int_rem_euclid (pos anchor.timestamp +ℤ (n -ℤ pos anchor.number) *ℤ pos stream.frames) (pos 4294967296) = sym (size_is _ (rem_bounds 4294967296 _ (omega arith)).0) ∙ ap pos stamps ∙ size_is _ (rem_bounds 4294967296 _ (omega arith)).0 in
    packet_time_cases IsOneNumber one_6 one_12 one_16 one_48 one_192 stream.frames time m n anchor.timestamp anchor.number (a.1 + b.0) (b.1 + a.0) (low_m.1 + low_n.0) (low_n.1 + low_m.0) (omega (arith, ints, a.2, b.2, rest)) (omega (arith, ints, low_m.2, low_n.2, same)) less more

-- another number with the same low bits is off the grid
pub off_grid : (stream : Stream) (anchor : Anchor) (m : ℕ) (n : ℤ) → is_packet_time stream.frames ≡ true → int_rem_euclid (pos m) (pos 65536) ≡ int_rem_euclid n (pos 65536) → pos m <ℤ (n +ℤ pos 67108864) → n <ℤ (pos m +ℤ pos 67108864) → (pos m ≡ n → ⊥) → is_on_grid stream anchor m (timestamp_in_step stream anchor n) ≡ false
off_grid stream anchor m n time same less more other = by_stamp (nat_eq (timestamp_in_step stream anchor n) (timestamp_in_step stream anchor (pos m))) refl
  where
    by_stamp : (b : Bool) → nat_eq (timestamp_in_step stream anchor n) (timestamp_in_step stream anchor (pos m)) ≡ b → b ≡ false
    by_stamp false e = refl
    by_stamp true e =
        let stamps : timestamp_in_step stream anchor (pos m) ≡ timestamp_in_step stream anchor n = grind (arith, nat_tests, e) in
        absurd (other (one_number stream anchor (pos m) n time same less more stamps))
