-- Remainders of signed numbers, and that one number alone is nearest.
use Rattle.std.proofs.Common.{◌≡◌, ℕ, suc, ◌+◌, ◌-◌, ◌*◌, ◌<◌, ◌≤◌, ◌/◌, ◌%◌, ℤ, pos, negsuc, ◌+ℤ◌, ◌-ℤ◌, ◌≤ℤ◌, ◌<ℤ◌, arith, refl, sym, ap, ◌∙◌, ⊎_elim}
use Rattle.std.proofs.Math.Nat.{mul-le-mul_left, mul-le-mul_right, mod-lt, div-add-mod', mod-eq_of_lt}
use Rattle.std.proofs.lemmas.Int.{ints, int_rem_euclid_is}
use Rattle.std.proofs.lemmas.Bool.{cases_lt}
use Rattle.std.specs.Int.{int_rem_euclid}
use Rattle.rtp_stream.specs.Nearest.{IsNearest, nearest_number}
use borrow.Author.Differences.{up, down}

-- two natural numbers with one remainder that are less than the divisor apart are one
alike : (m a b : ℕ) → a % m ≡ b % m → a < b + m → b < a + m → a ≡ b
alike m a b e less more =
    let split_a = div-add-mod' a m in
    let split_b = div-add-mod' b m in
    ⊎_elim (λ l. absurd (omega (arith, mul-le-mul_right m l)))
    (λ r. ⊎_elim (λ l. absurd (omega (arith, mul-le-mul_right m l))) (λ s. let same : a / m ≡ b / m = omega arith in omega (arith, ap (λ q. q * m) same)) (cases_lt (b / m) (a / m)))
    (cases_lt (a / m) (b / m))

-- a and b differ by a multiple of m
pub rem_same : (m : ℕ) (a b : ℤ) (j k : ℕ) → 0 < m → a +ℤ pos (j * m) ≡ b +ℤ pos (k * m) → int_rem_euclid a (pos m) ≡ int_rem_euclid b (pos m)
rem_same m a b j k some e =
    let t = down a + down b in
    let far : t * 1 ≤ t * m = mul-le-mul_left t some in
    let n = up a + (j + t) * m - down a in
    let from : (z : ℤ) (i : ℕ) → z +ℤ pos ((i + t) * m) ≡ pos n → int_rem_euclid z (pos m) ≡ pos (n % m) = λ z i h. int_rem_euclid_is z (pos m) m (i + t) n some refl h in
    from a j (omega (arith, ints)) ∙ sym (from b k (omega (arith, ints)))

-- a number and its remainder differ by a multiple
pub rem_apart : (m : ℕ) (z : ℤ) → 0 < m → (j : ℕ) × (k : ℕ) × (int_rem_euclid z (pos m) +ℤ pos (j * m) ≡ z +ℤ pos (k * m))
rem_apart m (pos a) some = (a / m, 0, omega (arith, ints, div-add-mod' a m))
rem_apart m (negsuc a) some = (0, suc (a / m), omega (arith, ints, div-add-mod' a m, mod-lt a some))

pub rem_bounds : (m : ℕ) (z : ℤ) → 0 < m → (pos 0 ≤ℤ int_rem_euclid z (pos m)) × (int_rem_euclid z (pos m) <ℤ pos m)
rem_bounds m (pos a) some = (omega (arith, ints), omega (arith, ints, mod-lt a some))
rem_bounds m (negsuc a) some = (omega (arith, ints), omega (arith, ints, mod-lt a some))

-- a number that is less than the modulus is its own remainder
pub rem_small : (m s : ℕ) → s < m → int_rem_euclid (pos s) (pos m) ≡ pos s
rem_small m s h = ap pos (mod-eq_of_lt h)

-- numbers that differ by a multiple of m, and by less than m
between : (m : ℕ) (a b : ℤ) (i j k l : ℕ) → int_rem_euclid a (pos m) ≡ int_rem_euclid b (pos m) → int_rem_euclid a (pos m) +ℤ pos (i * m) ≡ a +ℤ pos (j * m) → int_rem_euclid b (pos m) +ℤ pos (k * m) ≡ b +ℤ pos (l * m) → a <ℤ (b +ℤ pos m) → b <ℤ (a +ℤ pos m) → a ≡ b
between m a b i j k l e p q less more =
    ⊎_elim (λ h. absurd (omega (arith, ints, mul-le-mul_right m h)))
    (λ h. ⊎_elim (λ g. absurd (omega (arith, ints, mul-le-mul_right m g))) (λ g. let same : i + l ≡ k + j = omega arith in omega (arith, ints, ap (λ x. x * m) same)) (cases_lt (k + j) (i + l)))
    (cases_lt (i + l) (k + j))

-- two numbers with one remainder that are less than the divisor apart are one
pub rem_alike : (m : ℕ) (a b : ℤ) → 0 < m → int_rem_euclid a (pos m) ≡ int_rem_euclid b (pos m) → a <ℤ (b +ℤ pos m) → b <ℤ (a +ℤ pos m) → a ≡ b
rem_alike m a b some e less more =
    let p = rem_apart m a some in
    let q = rem_apart m b some in
    between m a b p.0 p.1 q.0 q.1 e p.2 q.2 less more

pub IsNearest-nearest_number : (half s : ℕ) (r : ℤ) → s < 2 * half → IsNearest half s r (nearest_number half s r)
IsNearest-nearest_number half s r h =
    let low = r -ℤ pos half in
    let some : 0 < 2 * half = omega arith in
    let p = rem_apart (2 * half) (pos s -ℤ low) some in
    let bounds = rem_bounds (2 * half) (pos s -ℤ low) some in
    record {
      low_bits = rem_same (2 * half) (nearest_number half s r) (pos s) p.0 p.1 some (omega (arith, ints, p.2)) ∙ rem_small (2 * half) s h;
      not_below = omega (arith, ints, bounds.0);
      below = omega (arith, ints, bounds.1);
    }

pub nearest_number-only : (half s : ℕ) (r n : ℤ) → s < 2 * half → IsNearest half s r n → n ≡ nearest_number half s r
nearest_number-only half s r n h p =
    let q = IsNearest-nearest_number half s r h in
    rem_alike (2 * half) n (nearest_number half s r) (omega arith) (p.low_bits ∙ sym q.low_bits) (omega (arith, ints)) (omega (arith, ints))
