-- Numbers by path.
use Rattle.std.proofs.Common.{◌≡◌, ℕ, zero, suc, ◌+◌, ◌<◌, ◌≤◌, List, [], ◌∷◌, length, refl, ap, arith}
use Rattle.std.specs.Prelude.{sum, slice_set, slice_index_or}
use Rattle.std.proofs.lemmas.List.Sums.{sum_by-set, get_or-le-sum_by}
use Rattle.rtp_stream.specs.CountsFacts.{increased_at}

pub increased_at-set : (i : ℕ) (xs : List ℕ) → i < length xs → slice_set xs i (slice_index_or xs i 0 + 1) ≡ increased_at i xs
increased_at-set zero [] lt = absurd (omega arith)
increased_at-set (suc i) [] lt = absurd (omega arith)
increased_at-set zero (x ∷ xs) lt = refl
increased_at-set (suc i) (x ∷ xs) lt = ap (λ l. x ∷ l) (increased_at-set i xs (omega arith))

pub sum-set_one_more : (i : ℕ) (xs : List ℕ) → i < length xs → sum (slice_set xs i (slice_index_or xs i 0 + 1)) ≡ sum xs + 1
sum-set_one_more i xs lt = omega (arith, sum_by-set (λ x. x) xs i (slice_index_or xs i 0 + 1) 0 lt)

pub index-le-sum : (i : ℕ) (xs : List ℕ) → i < length xs → slice_index_or xs i 0 ≤ sum xs
index-le-sum i xs lt = get_or-le-sum_by (λ x. x) xs i 0 lt
