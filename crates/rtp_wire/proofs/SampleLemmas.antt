-- Two's complement, and the octets of samples.
use Rattle.std.proofs.Common.{◌≡◌, ◌<◌, ◌≤◌, ◌+◌, ◌-◌, ◌*◌, ◌/◌, ◌%◌, ◌^◌, ◌++◌, ℕ, zero, suc, List, [], ◌∷◌, length, map, set, get_or, Some, take, drop, refl, sym, ap, ◌∙◌, arith, ℤ, pos, negsuc, ◌*ℤ◌, of_z, to_z, w16, w32, true, false, ltb, inl, inr}
use Rattle.std.specs.Int.Signed.{shr_z}
use Rattle.std.proofs.lemmas.Bool.{cases_lt}
use Rattle.byteorder.specs.Endian.{big_number}
use Rattle.byteorder.specs.Numbers.{big_from-lt}
use Rattle.std.specs.Int.{to_be_bytes}
use Rattle.std.specs.List.{range_with_len, slice_get, All}
use Rattle.std.proofs.lemmas.List.Elements.{All-map}
use Rattle.std.proofs.lemmas.Int.{ints}
use Rattle.std.proofs.lemmas.Bool.Decides.{nat_tests}
use Rattle.std.proofs.lemmas.Grind.{flat_map-append}
use Rattle.std.proofs.lemmas.List.{append-nil, append_assoc, drop_more, set_at, take_more, length-take-le, length_push}
use Rattle.std.proofs.lemmas.List.FromFn.{length-map-range_with_len, map-range_with_len_more}
use Rattle.rtp_wire.specs.declared.encoding.Enc.{Enc}
use Rattle.rtp_wire.specs.declared.encoding.Enc.TheVariants.{L16, L24}
use Rattle.rtp_wire.specs.Octets.{AreOctets, big_endian, twos_complement}
use Rattle.rtp_wire.specs.Sample.{FitsEncoding, Is24Bits, octets_per_sample, sample_value, sample_octets, block_octets, sample_at, sample_count, samples_of}
use Rattle.rtp_wire.proofs.OctetsLemmas.{AreOctets-drop, big_endian-take, big_endian-octets_of_two, big_endian-octets_of_three}

-- the signed number that the bits of a number of 24 bits spell is that number
pub back_24 : (v : ℤ) → FitsEncoding L24 v → sample_value L24 (sample_octets L24 v) ≡ v
back_24 (pos n) fits =
    let small : n < 2 ^ 23 = omega (arith, ints, fits.high) in
    let number = big_endian-octets_of_three n (omega arith) in
    rw number (grind (arith, nat_tests))
back_24 (negsuc n) fits =
    let small : n < 2 ^ 23 = omega (arith, ints, fits.low) in
    let number = big_endian-octets_of_three (2 ^ 24 - suc n) (omega arith) in
    rw number (grind (arith, ints, nat_tests))

-- a sample of 16 bits is read back, and on the scale of 24 bits it is multiplied by 256
twos_complement-back_16 : (v : ℤ) → FitsEncoding L16 v → twos_complement 16 (big_endian (sample_octets L16 v)) ≡ v
twos_complement-back_16 (pos n) fits =
    let small : n < 2 ^ 15 = omega (arith, ints, fits.high) in
    let number = big_endian-octets_of_two n (omega arith) in
    rw number (grind (arith, nat_tests))
twos_complement-back_16 (negsuc n) fits =
    let small : n < 2 ^ 15 = omega (arith, ints, fits.low) in
    let number = big_endian-octets_of_two (2 ^ 16 - suc n) (omega arith) in
    rw number (grind (arith, ints, nat_tests))

pub back_16 : (v : ℤ) → FitsEncoding L16 v → sample_value L16 (sample_octets L16 v) ≡ v *ℤ pos 256
back_16 v fits = ap (λ z. z *ℤ pos 256) (twos_complement-back_16 v fits)

-- one more element after those that are written so far
put_one : {X : Type 0} (front old : List X) (n : ℕ) (a : X) → length front ≡ n → n < length old
    → set (front ++ drop n old) n a ≡ (front ++ a ∷ []) ++ drop (n + 1) old
put_one front old n a len h =
    ap (λ r. set (front ++ r) n a) (drop_more old n a h)
    ∙ set_at front (get_or old n a) (drop (n + 1) old) a n len
    ∙ sym (append_assoc front (a ∷ []) (drop (n + 1) old))

-- one more place filled with a function's value there
pub fill_more : {X : Type 0} (f : ℕ → X) (out old : List X) (i : ℕ) (x : X) → i < length old → x ≡ f i
    → out ≡ map f (range_with_len 0 i) ++ drop i old
    → set out i x ≡ map f (range_with_len 0 (i + 1)) ++ drop (i + 1) old
fill_more f out old i x h e before =
    ap (λ r. set r i x) before
    ∙ put_one (map f (range_with_len 0 i)) old i x (length-map-range_with_len f 0 i) h
    ∙ ap (λ y. (map f (range_with_len 0 i) ++ y ∷ []) ++ drop (i + 1) old) e
    ∙ ap (λ r. r ++ drop (i + 1) old) (sym (map-range_with_len_more f 0 i i (omega arith)))

-- the element at an index of a filled list
filled_from : {X : Type 0} (f : ℕ → X) (rest : List X) (a n k : ℕ) → k < n → slice_get (map f (range_with_len a n) ++ rest) k ≡ Some (f (a + k))
filled_from f rest a zero k h = absurd (omega arith)
filled_from f rest a (suc n) zero h = let e : a + 0 ≡ a = omega arith in rw e refl
filled_from f rest a (suc n) (suc k) h =
    let e : a + 1 + k ≡ a + suc k = omega arith in
    filled_from f rest (a + 1) n k (omega arith) ∙ ap (λ i. Some (f i)) e

pub filled_at : {X : Type 0} (f : ℕ → X) (rest : List X) (n k : ℕ) → k < n → slice_get (map f (range_with_len 0 n) ++ rest) k ≡ Some (f k)
filled_at f rest n k h = filled_from f rest 0 n k h ∙ ap (λ i. Some (f i)) (omega arith)

-- how many octets samples take
pub length-block_octets : (enc : Enc) (samples : List ℤ) → length (block_octets enc samples) ≡ octets_per_sample enc * length samples
length-block_octets L16 [] = refl
length-block_octets L24 [] = refl
length-block_octets L16 (v ∷ vs) = let rest = length-block_octets L16 vs in omega (arith, rest)
length-block_octets L24 (v ∷ vs) = let rest = length-block_octets L24 vs in omega (arith, rest)

-- the octets of one sample more
block_octets-more : (enc : Enc) (samples : List ℤ) (i : ℕ) → i < length samples
    → block_octets enc (take (i + 1) samples) ≡ block_octets enc (take i samples) ++ sample_octets enc (get_or samples i (pos 0))
block_octets-more enc samples i h =
    ap (block_octets enc) (take_more samples i (pos 0) h)
    ∙ flat_map-append (sample_octets enc) (take i samples) (get_or samples i (pos 0) ∷ [])
    ∙ ap (λ r. block_octets enc (take i samples) ++ r) (append-nil (sample_octets enc (get_or samples i (pos 0))))

-- the octets of one sample more are written
pub write_more_16 : (samples : List ℤ) (out old : List ℕ) (i a b : ℕ) → i < length samples → 2 * length samples ≤ length old
    → sample_octets L16 (get_or samples i (pos 0)) ≡ a ∷ b ∷ []
    → out ≡ block_octets L16 (take i samples) ++ drop (2 * i) old
    → set (set out (2 * i) a) (2 * i + 1) b ≡ block_octets L16 (take (i + 1) samples) ++ drop (2 * (i + 1)) old
write_more_16 samples out old i a b h space e before =
    let front : List ℕ = block_octets L16 (take i samples) in
    let len : length front ≡ 2 * i = length-block_octets L16 (take i samples) ∙ ap (λ n. 2 * n) (length-take-le i samples (omega arith)) in
    let len_a : length (front ++ a ∷ []) ≡ 2 * i + 1 = length_push front a ∙ ap (λ n. n + 1) len in
    let next : 2 * i + 1 + 1 ≡ 2 * (i + 1) = omega arith in
    ap (λ r. set (set r (2 * i) a) (2 * i + 1) b) before
    ∙ ap (λ r. set r (2 * i + 1) b) (put_one front old (2 * i) a len (omega arith))
    ∙ put_one (front ++ a ∷ []) old (2 * i + 1) b len_a (omega arith)
    ∙ ap (λ n. ((front ++ a ∷ []) ++ b ∷ []) ++ drop n old) next
    ∙ ap (λ r. r ++ drop (2 * (i + 1)) old) (
    append_assoc front (a ∷ []) (b ∷ [])
    ∙ ap (λ r. front ++ r) (sym e)
    ∙ sym (block_octets-more L16 samples i h))

pub write_more_24 : (samples : List ℤ) (out old : List ℕ) (i a b c : ℕ) → i < length samples → 3 * length samples ≤ length old
    → sample_octets L24 (get_or samples i (pos 0)) ≡ a ∷ b ∷ c ∷ []
    → out ≡ block_octets L24 (take i samples) ++ drop (3 * i) old
    → set (set (set out (3 * i) a) (3 * i + 1) b) (3 * i + 2) c ≡ block_octets L24 (take (i + 1) samples) ++ drop (3 * (i + 1)) old
write_more_24 samples out old i a b c h space e before =
    let front : List ℕ = block_octets L24 (take i samples) in
    let len : length front ≡ 3 * i = length-block_octets L24 (take i samples) ∙ ap (λ n. 3 * n) (length-take-le i samples (omega arith)) in
    let len_a : length (front ++ a ∷ []) ≡ 3 * i + 1 = length_push front a ∙ ap (λ n. n + 1) len in
    let len_b : length ((front ++ a ∷ []) ++ b ∷ []) ≡ 3 * i + 2 = length_push (front ++ a ∷ []) b ∙ omega arith in
    let second : 3 * i + 1 + 1 ≡ 3 * i + 2 = omega arith in
    let next : 3 * i + 2 + 1 ≡ 3 * (i + 1) = omega arith in
    ap (λ r. set (set (set r (3 * i) a) (3 * i + 1) b) (3 * i + 2) c) before
    ∙ ap (λ r. set (set r (3 * i + 1) b) (3 * i + 2) c) (put_one front old (3 * i) a len (omega arith))
    ∙ ap (λ r. set r (3 * i + 2) c) (put_one (front ++ a ∷ []) old (3 * i + 1) b len_a (omega arith) ∙ ap (λ n. ((front ++ a ∷ []) ++ b ∷ []) ++ drop n old) second)
    ∙ put_one ((front ++ a ∷ []) ++ b ∷ []) old (3 * i + 2) c len_b (omega arith)
    ∙ ap (λ n. (((front ++ a ∷ []) ++ b ∷ []) ++ c ∷ []) ++ drop n old) next
    ∙ ap (λ r. r ++ drop (3 * (i + 1)) old) (
    append_assoc (front ++ a ∷ []) (b ∷ []) (c ∷ [])
    ∙ append_assoc front (a ∷ []) (b ∷ c ∷ [])
    ∙ ap (λ r. front ++ r) (sym e)
    ∙ sym (block_octets-more L24 samples i h))

-- the octets of a sample are the last of those of the number in a wider type
pub octets_16 : (v : ℤ) (bytes : List ℕ) → FitsEncoding L16 v → bytes ≡ to_be_bytes w16 (of_z w16 v) → sample_octets L16 v ≡ get_or bytes 0 0 ∷ get_or bytes 1 0 ∷ []
octets_16 (pos n) bytes fits e =
    let low : n / 1 % 256 ≡ n % 256 = omega arith in
    rw (e, low) refl
octets_16 (negsuc n) bytes fits e =
    let low : (2 ^ 16 - suc n) / 1 % 256 ≡ (2 ^ 16 - suc n) % 256 = omega arith in
    rw (e, low) refl

pub octets_24 : (v : ℤ) (bytes : List ℕ) → FitsEncoding L24 v → bytes ≡ to_be_bytes w32 (of_z w32 v) → sample_octets L24 v ≡ get_or bytes 1 0 ∷ get_or bytes 2 0 ∷ get_or bytes 3 0 ∷ []
octets_24 (pos n) bytes fits e =
    let low : n / 1 % 256 ≡ n % 256 = omega arith in
    rw (e, low) refl
octets_24 (negsuc n) bytes fits e =
    let small : n < 2 ^ 23 = omega (arith, ints, fits.low) in
    let high : (2 ^ 24 - suc n) / 65536 % 256 ≡ (2 ^ 32 - suc n) / 65536 % 256 = omega arith in
    let middle : (2 ^ 24 - suc n) / 256 % 256 ≡ (2 ^ 32 - suc n) / 256 % 256 = omega arith in
    let low : (2 ^ 24 - suc n) / 1 % 256 ≡ (2 ^ 32 - suc n) % 256 = omega arith in
    rw (e, high, middle, low) refl

-- the upper 24 bits of 32 are the signed number that the first three octets spell
pub upper_24 : (n m d : ℕ) → n ≡ m * 256 + d → d < 256 → m < 2 ^ 24 → shr_z (to_z w32 n) 256 ≡ twos_complement 24 m
upper_24 n m d e low fits = elim (cases_lt m 8388608) [
  | inl below ↦
      let sign : ltb n 2147483648 ≡ true = grind (arith, nat_tests) in
      let part : n / 256 ≡ m = omega arith in
      let test : ltb m 8388608 ≡ true = grind (arith, nat_tests) in
      rw (sign, part, test) refl
  | inr above ↦
      let sign : ltb n 2147483648 ≡ false = grind (arith, nat_tests) in
      let part : (4294967296 - suc n) / 256 ≡ 16777216 - suc m = omega arith in
      let test : ltb m 8388608 ≡ false = grind (arith, nat_tests) in
      rw (sign, part, test) (omega (arith, ints))
]

-- the upper 24 bits of a word of four octets are the sample in the first three of them
pub word_sample : (ys : List ℕ) (r : ℤ) → AreOctets ys → 4 ≤ length ys → r ≡ to_z w32 (big_number 4 ys)
    → shr_z r 256 ≡ twos_complement 24 (big_endian (take 3 ys))
word_sample ys r octets h e =
    ap (λ z. shr_z z 256) e
    ∙ upper_24 (big_number 4 ys) (big_number 3 ys) (get_or ys 3 0) (omega arith) (octets 3) (big_from-lt 0 3 ys octets)
    ∙ ap (twos_complement 24) (sym (big_endian-take 3 ys (omega arith)))

-- a payload's samples, one by one
pub samples_of-at : (enc : Enc) (octets : List ℕ) (rest r : List ℤ) (count k : ℕ) → r ≡ samples_of enc octets ++ rest → count ≡ sample_count enc octets → k < count
    → slice_get r k ≡ Some (sample_at enc octets k)
samples_of-at enc octets rest r count k e same h =
    ap (λ x. slice_get x k) e ∙ filled_at (sample_at enc octets) rest (sample_count enc octets) k (omega arith)

-- a number in two's complement lies in the range of its bits
twos_24 : (n : ℕ) → n < 2 ^ 24 → FitsEncoding L24 (twos_complement 24 n)
twos_24 n h = elim (cases_lt n (2 ^ 23)) [
  | inl low ↦ record { low = grind (arith, ints, nat_tests); high = grind (arith, ints, nat_tests) }
  | inr high ↦ record { low = grind (arith, ints, nat_tests); high = grind (arith, ints, nat_tests) }
]

twos_16 : (n : ℕ) → n < 2 ^ 16 → FitsEncoding L24 (twos_complement 16 n *ℤ pos 256)
twos_16 n h = elim (cases_lt n (2 ^ 15)) [
  | inl low ↦ record { low = grind (arith, ints, nat_tests); high = grind (arith, ints, nat_tests) }
  | inr high ↦ record { low = grind (arith, ints, nat_tests); high = grind (arith, ints, nat_tests) }
]

small_24 : (xs : List ℕ) → AreOctets xs → big_endian (take 3 xs) < 2 ^ 24
small_24 [] octets = omega arith
small_24 (a ∷ []) octets = let h = octets 0 in omega (arith, h)
small_24 (a ∷ b ∷ []) octets = let h = octets 0 in let i = octets 1 in omega (arith, h, i)
small_24 (a ∷ b ∷ c ∷ xs) octets = let h = octets 0 in let i = octets 1 in let j = octets 2 in omega (arith, h, i, j)

small_16 : (xs : List ℕ) → AreOctets xs → big_endian (take 2 xs) < 2 ^ 16
small_16 [] octets = omega arith
small_16 (a ∷ []) octets = let h = octets 0 in omega (arith, h)
small_16 (a ∷ b ∷ xs) octets = let h = octets 0 in let i = octets 1 in omega (arith, h, i)

is_24_bits : (v : ℤ) → FitsEncoding L24 v → Is24Bits v
is_24_bits (pos n) h = let high = h.high in omega (arith, ints, high)
is_24_bits (negsuc n) h = let low = h.low in omega (arith, ints, low)

-- every sample of octets has 24 bits
sample_in_24_bits : (enc : Enc) (octets : List ℕ) (k : ℕ) → AreOctets octets → Is24Bits (sample_at enc octets k)
sample_in_24_bits L16 octets k h = is_24_bits _ (twos_16 (big_endian (take 2 (drop (2 * k) octets))) (small_16 (drop (2 * k) octets) (AreOctets-drop octets (2 * k) h)))
sample_in_24_bits L24 octets k h = is_24_bits _ (twos_24 (big_endian (take 3 (drop (3 * k) octets))) (small_24 (drop (3 * k) octets) (AreOctets-drop octets (3 * k) h)))

pub samples_in_24_bits : (enc : Enc) (octets : List ℕ) → AreOctets octets → All Is24Bits (samples_of enc octets)
samples_in_24_bits enc octets h = All-map Is24Bits (sample_at enc octets) (range_with_len 0 (sample_count enc octets)) (λ k d within. sample_in_24_bits enc octets _ h)
