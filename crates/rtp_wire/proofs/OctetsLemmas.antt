-- Numbers and the octets that spell them.
use Rattle.std.proofs.Common.{◌≡◌, ◌<◌, ◌≤◌, ◌+◌, ◌-◌, ◌*◌, ◌/◌, ◌%◌, ◌^◌, ℕ, zero, suc, List, [], ◌∷◌, ◌++◌, length, take, drop, get_or, slice_range, refl, sym, ap, ◌∙◌, arith}
use Rattle.std.proofs.lemmas.List.{length-take-le, length-drop, drop_more, get_or-drop, take-append-drop, take-take, take_at, drop_at, drop-drop, append_assoc}
use Rattle.std.proofs.lemmas.Slice.{between_is}
use Rattle.byteorder.specs.Endian.{big_from, big_number}
use Rattle.byteorder.specs.Numbers.{big_from-cons, big_from-lt}
use Rattle.rtp_wire.specs.Octets.{big_endian, octets_of, AreOctets}

-- the first octets of a list spell the number that `byteorder` reads
pub big_endian-take : (n : ℕ) (xs : List ℕ) → n ≤ length xs → big_endian (take n xs) ≡ big_number n xs
big_endian-take zero xs h = refl
big_endian-take (suc n) [] h = absurd (omega arith)
big_endian-take (suc n) (x ∷ xs) h =
    let len : length (take n xs) ≡ n = length-take-le n xs (omega arith) in
    let rest : big_endian (take n xs) ≡ big_number n xs = big_endian-take n xs (omega arith) in
    let moved : big_from 1 n (x ∷ xs) ≡ big_from 0 n xs = big_from-cons 0 n x xs in
    rw (len, rest, moved) refl

-- the number of the octets between two places
pub big_endian-range : (xs : List ℕ) (i j n : ℕ) → j ≡ i + n → j ≤ length xs → big_endian (slice_range xs i j) ≡ big_number n (drop i xs)
big_endian-range xs i j n e h =
    let count : j - i ≡ n = omega arith in
    rw count (big_endian-take n (drop i xs) (omega (arith, length-drop i xs)))

-- two octets are those of the number that they spell
pub octets_of-two : (a b n : ℕ) → a < 256 → b < 256 → n ≡ a * 256 + b → octets_of 2 n ≡ a ∷ b ∷ []
octets_of-two a b n fits_a fits_b e =
    let high : n / 256 % 256 ≡ a = omega arith in
    let low : n / 1 % 256 ≡ b = omega arith in
    rw (high, low) refl

-- four octets are those of the number that they spell
pub octets_of-four : (a b c d n : ℕ) → a < 256 → b < 256 → c < 256 → d < 256
    → n ≡ a * 16777216 + b * 65536 + c * 256 + d → octets_of 4 n ≡ a ∷ b ∷ c ∷ d ∷ []
octets_of-four a b c d n fits_a fits_b fits_c fits_d e =
    let first : n / 16777216 % 256 ≡ a = omega arith in
    let second : n / 65536 % 256 ≡ b = omega arith in
    let third : n / 256 % 256 ≡ c = omega arith in
    let fourth : n / 1 % 256 ≡ d = omega arith in
    rw (first, second, third, fourth) refl

-- a number below 2 ^ 16 is what its two octets spell
pub big_endian-octets_of_two : (n : ℕ) → n < 2 ^ 16 → big_endian (octets_of 2 n) ≡ n
big_endian-octets_of_two n fits = omega arith

-- a number below 2 ^ 24 is what its three octets spell
pub big_endian-octets_of_three : (n : ℕ) → n < 2 ^ 24 → big_endian (octets_of 3 n) ≡ n
big_endian-octets_of_three n fits = omega arith

-- a number below 2 ^ 32 is what its four octets spell
pub big_endian-octets_of_four : (n : ℕ) → n < 2 ^ 32 → big_endian (octets_of 4 n) ≡ n
big_endian-octets_of_four n fits = omega arith

-- the octets of the number that two octets spell, and four
octets_of-first_two : (ys : List ℕ) → AreOctets ys → 2 ≤ length ys → octets_of 2 (big_number 2 ys) ≡ take 2 ys
octets_of-first_two ys octets h =
    let cells : ys ≡ get_or ys 0 0 ∷ get_or ys 1 0 ∷ drop 2 ys =
    drop_more ys 0 0 (omega arith) ∙ ap (λ r. get_or ys 0 0 ∷ r) (drop_more ys 1 0 (omega arith)) in
    octets_of-two (get_or ys 0 0) (get_or ys 1 0) (big_number 2 ys) (octets 0) (octets 1) (omega arith) ∙ sym (ap (take 2) cells)

octets_of-first_four : (ys : List ℕ) → AreOctets ys → 4 ≤ length ys → octets_of 4 (big_number 4 ys) ≡ take 4 ys
octets_of-first_four ys octets h =
    let cells : ys ≡ get_or ys 0 0 ∷ get_or ys 1 0 ∷ get_or ys 2 0 ∷ get_or ys 3 0 ∷ drop 4 ys =
    drop_more ys 0 0 (omega arith) ∙ ap (λ r. get_or ys 0 0 ∷ r) (
    drop_more ys 1 0 (omega arith) ∙ ap (λ r. get_or ys 1 0 ∷ r) (
    drop_more ys 2 0 (omega arith) ∙ ap (λ r. get_or ys 2 0 ∷ r) (
    drop_more ys 3 0 (omega arith)))) in
    octets_of-four (get_or ys 0 0) (get_or ys 1 0) (get_or ys 2 0) (get_or ys 3 0) (big_number 4 ys) (octets 0) (octets 1) (octets 2) (octets 3) (omega arith)
    ∙ sym (ap (take 4) cells)

-- what is left of octets behind a place is octets too
pub AreOctets-drop : (xs : List ℕ) (i : ℕ) → AreOctets xs → AreOctets (drop i xs)
AreOctets-drop xs i octets k = rw (get_or-drop i xs k 0) (octets (i + k))

-- two octets of a list, read as a number and written again, are the same octets
pub octets_of-range_two : (xs : List ℕ) (i j : ℕ) → AreOctets xs → j ≡ i + 2 → j ≤ length xs
    → octets_of 2 (big_endian (slice_range xs i j)) ≡ slice_range xs i j
octets_of-range_two xs i j octets e h =
    let count : j - i ≡ 2 = omega arith in
    ap (octets_of 2) (big_endian-range xs i j 2 e h)
    ∙ octets_of-first_two (drop i xs) (AreOctets-drop xs i octets) (omega (arith, length-drop i xs))
    ∙ ap (λ n. take n (drop i xs)) (sym count)

pub octets_of-range_four : (xs : List ℕ) (i j : ℕ) → AreOctets xs → j ≡ i + 4 → j ≤ length xs
    → octets_of 4 (big_endian (slice_range xs i j)) ≡ slice_range xs i j
octets_of-range_four xs i j octets e h =
    let count : j - i ≡ 4 = omega arith in
    ap (octets_of 4) (big_endian-range xs i j 4 e h)
    ∙ octets_of-first_four (drop i xs) (AreOctets-drop xs i octets) (omega (arith, length-drop i xs))
    ∙ ap (λ n. take n (drop i xs)) (sym count)

-- a list is cut at a place and at a later one
pub take-range : (xs : List ℕ) (i j : ℕ) → i ≤ j → take i xs ++ slice_range xs i j ≡ take j xs
take-range xs i j h =
    ap (λ r. take i xs ++ r) (between_is xs i j)
    ∙ ap (λ r. r ++ drop i (take j xs)) (sym (take-take i j xs h))
    ∙ take-append-drop i (take j xs)

-- the part between two places, if the list is what is before it, the part and the rest
pub range_at : (before part rest : List ℕ) (i j : ℕ) → i ≡ length before → j ≡ i + length part → slice_range ((before ++ part) ++ rest) i j ≡ part
range_at before part rest i j at_i at_j =
    let count : j - i ≡ length part = omega arith in
    let regrouped : (before ++ part) ++ rest ≡ before ++ (part ++ rest) = append_assoc before part rest in
    rw count (ap (λ r. take (length part) (drop i r)) regrouped ∙ ap (take (length part)) (drop_at before (part ++ rest) i (sym at_i)) ∙ take_at part rest (length part) refl)

-- how long a part is
pub length-range : (xs : List ℕ) (i j : ℕ) → i ≤ j → j ≤ length xs → length (slice_range xs i j) ≡ j - i
length-range xs i j h k = length-take-le (j - i) (drop i xs) (omega (arith, length-drop i xs))

-- two parts side by side are one
pub range-range : (xs : List ℕ) (i j k : ℕ) → i ≤ j → j ≤ k → slice_range xs i j ++ slice_range xs j k ≡ slice_range xs i k
range-range xs i j k h g =
    let shift : i + (j - i) ≡ j = omega arith in
    let far : k - i ≡ j - i + (k - j) = omega arith in
    let count : j - i + (k - j) - (j - i) ≡ k - j = omega arith in
    let second : slice_range xs j k ≡ slice_range (drop i xs) (j - i) (j - i + (k - j)) = sym (
    ap (λ n. take n (drop (j - i) (drop i xs))) count
    ∙ ap (take (k - j)) (drop-drop (j - i) i xs ∙ ap (λ n. drop n xs) shift)) in
    ap (λ r. slice_range xs i j ++ r) second ∙ take-range (drop i xs) (j - i) (j - i + (k - j)) (omega arith) ∙ ap (λ n. take n (drop i xs)) (sym far)

-- two octets spell a number below 2 ^ 16, and four one below 2 ^ 32
pub big_endian-fits_two : (xs : List ℕ) (i j : ℕ) → AreOctets xs → j ≡ i + 2 → j ≤ length xs → big_endian (slice_range xs i j) < 2 ^ 16
big_endian-fits_two xs i j octets e h = rw (big_endian-range xs i j 2 e h) (big_from-lt 0 2 (drop i xs) (AreOctets-drop xs i octets))

pub big_endian-fits_four : (xs : List ℕ) (i j : ℕ) → AreOctets xs → j ≡ i + 4 → j ≤ length xs → big_endian (slice_range xs i j) < 2 ^ 32
big_endian-fits_four xs i j octets e h = rw (big_endian-range xs i j 4 e h) (big_from-lt 0 4 (drop i xs) (AreOctets-drop xs i octets))
