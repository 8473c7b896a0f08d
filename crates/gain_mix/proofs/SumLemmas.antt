-- Weighted sums: one more input, and bounds of their size.
use Rattle.std.proofs.Common.{◌≡◌, ℕ, zero, suc, ◌+◌, ◌*◌, ◌<◌, ◌≤◌, ℤ, pos, negsuc, ◌+ℤ◌, ◌*ℤ◌, List, [], ◌∷◌, length, take, get_or, arith, sym, ap, ◌∙◌, add-one, All, FitsSigned, to_z, of_z, w32, w64}
use Rattle.std.specs.Int.RustNames.{unsigned_abs}
use Rattle.std.proofs.lemmas.Int.{ints, unsigned_abs-mul, to_z-of_z, fits_signed_from_abs}
use Rattle.std.proofs.lemmas.List.{take_all}
use Rattle.std.proofs.Math.Nat.{mul-le-mul_left, mul-le-mul_right}
use Rattle.std.proofs.lemmas.List.Elements.{All-get_or}
use Rattle.gain_mix.specs.Four.{IsSumTo}
use Rattle.gain_mix.specs.Gain.{IsGain, IsRow}
use Rattle.gain_mix.specs.Mix.{Is24Bits, IsWeighted, weighted_sum, rounded_sum, saturated_sum, output_sample}

weighted_sum_suc : (gs xs : List ℤ) (i : ℕ) → i < length gs → i < length xs → weighted_sum (take (suc i) gs) (take (suc i) xs) ≡ weighted_sum (take i gs) (take i xs) +ℤ (get_or gs i (pos 0) *ℤ get_or xs i (pos 0))
weighted_sum_suc [] xs i h k = absurd (omega arith)
weighted_sum_suc (g ∷ gs) [] i h k = absurd (omega arith)
weighted_sum_suc (g ∷ gs) (x ∷ xs) zero h k = let p : ℤ = g *ℤ x in omega (arith, ints)
weighted_sum_suc (g ∷ gs) (x ∷ xs) (suc i) h k = omega (arith, ints, weighted_sum_suc gs xs i (omega arith) (omega arith))

-- the sum over one more input
pub weighted_sum_more : (gs xs : List ℤ) (i : ℕ) → i < length gs → i < length xs → weighted_sum (take (i + 1) gs) (take (i + 1) xs) ≡ weighted_sum (take i gs) (take i xs) +ℤ (get_or gs i (pos 0) *ℤ get_or xs i (pos 0))
weighted_sum_more gs xs i h k = rw add-one (weighted_sum_suc gs xs i h k)

pub unsigned_abs-add : (a b : ℤ) → unsigned_abs (a +ℤ b) ≤ unsigned_abs a + unsigned_abs b
unsigned_abs-add a b = grind (arith, ints)

pub product_bound : (m n a b : ℕ) → a ≤ m → b ≤ n → a * b ≤ m * n
product_bound m n a b h k = omega (arith, mul-le-mul_left a k, mul-le-mul_right n h)

pub Is24Bits-bound : (x : ℤ) → Is24Bits x → unsigned_abs x ≤ 8388608
Is24Bits-bound (pos n) h = omega (arith, h)
Is24Bits-bound (negsuc n) h = omega (arith, h)

-- a gain times a sample of 24 bits
pub unsigned_abs-product : (g x : ℤ) → IsGain g → Is24Bits x → unsigned_abs (g *ℤ x) ≤ 8796093022208
unsigned_abs-product g x h k =
    rw (unsigned_abs-mul g x) (product_bound 1048576 8388608 (unsigned_abs g) (unsigned_abs x) h (Is24Bits-bound x k))

-- the sum and its bound, with one more input
pub IsSumTo-more : (gs xs : List ℤ) (i : ℕ) (sum : ℤ) → All IsGain gs → All Is24Bits xs → i < length gs → i < length xs → IsSumTo gs xs i sum → IsSumTo gs xs (i + 1) (sum +ℤ (get_or gs i (pos 0) *ℤ get_or xs i (pos 0)))
IsSumTo-more gs xs i sum gains values h k s =
    let g = get_or gs i (pos 0) in
    let x = get_or xs i (pos 0) in
    let p : unsigned_abs (g *ℤ x) ≤ 8796093022208 = unsigned_abs-product g x (All-get_or IsGain gs i (pos 0) h gains) (All-get_or Is24Bits xs i (pos 0) k values) in
    record {
      sum_is = ap (λ (z : ℤ). z +ℤ (g *ℤ x)) s.sum_is ∙ sym (weighted_sum_more gs xs i h k);
      bounded = omega (arith, unsigned_abs-add sum (g *ℤ x), p, s.bounded);
    }

-- the sum and its bound, with one more input, in the numbers of the code
pub IsSumTo-step : (gs xs : List ℤ) (i : ℕ) (sum r : ℤ) → IsRow (length xs) gs → All Is24Bits xs → i < length xs → FitsSigned w64 r → r ≡ sum +ℤ (to_z w64 (of_z w64 (get_or gs i (pos 0))) *ℤ to_z w32 (of_z w32 (get_or xs i (pos 0)))) → IsSumTo gs xs i sum → IsSumTo gs xs (i + 1) (to_z w64 (of_z w64 r))
IsSumTo-step gs xs i sum r row values h fits e s =
    let g = get_or gs i (pos 0) in
    let x = get_or xs i (pos 0) in
    let long = row.len in
    let in_row : i < length gs = omega arith in
    let gain_bound = All-get_or IsGain gs i (pos 0) in_row row.in_range in
    let value_bound = Is24Bits-bound x (All-get_or Is24Bits xs i (pos 0) h values) in
    let gain_fits : FitsSigned w64 g = fits_signed_from_abs w64 g (omega (arith, gain_bound)) in
    let value_fits : FitsSigned w32 x = fits_signed_from_abs w32 x (omega (arith, value_bound)) in
    let exact : r ≡ sum +ℤ (g *ℤ x) = simp to_z-of_z at e in
    rw (to_z-of_z w64 r fits, exact) (IsSumTo-more gs xs i sum row.in_range values in_row h s)

-- the sum and its bound, with one more input, if the sum so far was stored in 64 bits
pub IsSumTo-next : (gs xs : List ℤ) (i : ℕ) (sum r : ℤ) → IsRow (length xs) gs → length xs ≤ 1024 → All Is24Bits xs → i < length xs → FitsSigned w64 r → r ≡ to_z w64 (of_z w64 sum) +ℤ (to_z w64 (of_z w64 (get_or gs i (pos 0))) *ℤ to_z w32 (of_z w32 (get_or xs i (pos 0)))) → IsSumTo gs xs i sum → IsSumTo gs xs (i + 1) (to_z w64 (of_z w64 r))
IsSumTo-next gs xs i sum r row few values h fits e s =
    let product = to_z w64 (of_z w64 (get_or gs i (pos 0))) *ℤ to_z w32 (of_z w32 (get_or xs i (pos 0))) in
    let bound = s.bounded in
    let stored : FitsSigned w64 sum = fits_signed_from_abs w64 sum (omega arith) in
    IsSumTo-step gs xs i sum r row values h fits (e ∙ ap (λ (z : ℤ). z +ℤ product) (to_z-of_z w64 sum stored)) s

-- a sum is unchanged by storing it in 64 bits
pub IsSumTo-stored : (gs xs : List ℤ) (i : ℕ) (sum : ℤ) → FitsSigned w64 sum → IsSumTo gs xs i sum → IsSumTo gs xs i (to_z w64 (of_z w64 sum))
IsSumTo-stored gs xs i sum fits s = rw (to_z-of_z w64 sum fits) s

-- the sum over all inputs
pub IsSumTo-whole : (gs xs : List ℤ) (sum : ℤ) → IsRow (length xs) gs → length xs ≤ 1024 → IsSumTo gs xs (length xs) sum → IsWeighted gs xs sum
IsSumTo-whole gs xs sum row few s =
    let long = row.len in
    let bound = s.bounded in
    record {
      sum_is = s.sum_is ∙ ap (λ (l : List ℤ). weighted_sum l (take (length xs) xs)) (take_all (length xs) gs (omega arith)) ∙ ap (λ (l : List ℤ). weighted_sum gs l) (take_all (length xs) xs (omega arith));
      bounded = omega arith;
    }

-- the output sample of a sum, in the numbers of the code
pub output_sample-step : (s : ℕ) (gains values : List ℤ) (sum r : ℤ) → FitsSigned w64 sum → FitsSigned w32 r → IsWeighted gains values sum → r ≡ saturated_sum s (rounded_sum s (to_z w64 (of_z w64 sum))) → to_z w32 (of_z w32 r) ≡ output_sample s values gains
output_sample-step s gains values sum r sum_fits fits weighted e =
    to_z-of_z w32 r fits ∙ e
    ∙ ap (λ (z : ℤ). saturated_sum s (rounded_sum s z)) (to_z-of_z w64 sum sum_fits ∙ weighted.sum_is)
