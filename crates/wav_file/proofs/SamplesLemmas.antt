-- One sample more, with its octets in the other order.
use Rattle.std.proofs.Common.{◌≡◌, ◌<◌, ◌+◌, ◌*◌, ◌/◌, ℕ, zero, suc, List, [], ◌∷◌, ◌++◌, length, take, get_or, refl, ap, arith}
use Rattle.wav_file.specs.Samples.{little_16, little_24}

pub more_16 : (i : ℕ) (xs : List ℕ) → i < length xs / 2
    → little_16 (take (2 * (i + 1)) xs) ≡ (little_16 (take (2 * i) xs) ++ get_or xs (2 * i + 1) 0 ∷ []) ++ get_or xs (2 * i) 0 ∷ []
more_16 i [] h = absurd (omega (arith, h))
more_16 i (a ∷ []) h = absurd (omega (arith, h))
more_16 zero (a ∷ b ∷ xs) h = refl
more_16 (suc i) (a ∷ b ∷ xs) h =
    let next : 2 * (suc i + 1) ≡ suc (suc (2 * (i + 1))) = omega arith in
    let this : 2 * suc i ≡ suc (suc (2 * i)) = omega arith in
    let second : suc (suc (2 * i)) + 1 ≡ suc (suc (2 * i + 1)) = omega arith in
    rw (next, this, second) (ap (λ r. b ∷ a ∷ r) (more_16 i xs (omega (arith, h))))

pub more_24 : (i : ℕ) (xs : List ℕ) → i < length xs / 3
    → little_24 (take (3 * (i + 1)) xs) ≡ ((little_24 (take (3 * i) xs) ++ get_or xs (3 * i + 2) 0 ∷ []) ++ get_or xs (3 * i + 1) 0 ∷ []) ++ get_or xs (3 * i) 0 ∷ []
more_24 i [] h = absurd (omega (arith, h))
more_24 i (a ∷ []) h = absurd (omega (arith, h))
more_24 i (a ∷ b ∷ []) h = absurd (omega (arith, h))
more_24 zero (a ∷ b ∷ c ∷ xs) h = refl
more_24 (suc i) (a ∷ b ∷ c ∷ xs) h =
    let next : 3 * (suc i + 1) ≡ suc (suc (suc (3 * (i + 1)))) = omega arith in
    let this : 3 * suc i ≡ suc (suc (suc (3 * i))) = omega arith in
    let second : suc (suc (suc (3 * i))) + 1 ≡ suc (suc (suc (3 * i + 1))) = omega arith in
    let third : suc (suc (suc (3 * i))) + 2 ≡ suc (suc (suc (3 * i + 2))) = omega arith in
    rw (next, this, second, third) (ap (λ r. c ∷ b ∷ a ∷ r) (more_24 i xs (omega (arith, h))))

-- no sample is left
pub all_16 : (xs : List ℕ) → little_16 (take (2 * (length xs / 2)) xs) ≡ little_16 xs
all_16 [] = refl
all_16 (a ∷ []) = refl
all_16 (a ∷ b ∷ xs) =
    let count : 2 * (suc (suc (length xs)) / 2) ≡ suc (suc (2 * (length xs / 2))) = omega arith in
    rw count (ap (λ r. b ∷ a ∷ r) (all_16 xs))

pub all_24 : (xs : List ℕ) → little_24 (take (3 * (length xs / 3)) xs) ≡ little_24 xs
all_24 [] = refl
all_24 (a ∷ []) = refl
all_24 (a ∷ b ∷ []) = refl
all_24 (a ∷ b ∷ c ∷ xs) =
    let count : 3 * (suc (suc (suc (length xs))) / 3) ≡ suc (suc (suc (3 * (length xs / 3)))) = omega arith in
    rw count (ap (λ r. c ∷ b ∷ a ∷ r) (all_24 xs))
