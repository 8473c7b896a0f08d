-- Octets that are the same up to a place.
use Rattle.std.proofs.Common.{◌≡◌, ℕ, zero, suc, ◌<◌, Bool, true, false, ◌&&◌, List, [], ◌∷◌, length, take, drop, refl, subst, arith}
use Rattle.std.specs.Prelude.{bytes_eq, nat_eq, slice_index_or}

-- one octet more
one_more : (m : ℕ) (a b : List ℕ) → m < length a → m < length b → bytes_eq (take (suc m) a) (take (suc m) b) ≡ (bytes_eq (take m a) (take m b) && nat_eq (slice_index_or a m 0) (slice_index_or b m 0))
one_more m [] b la lb = absurd (omega (arith, la))
one_more m (s ∷ a) [] la lb = absurd (omega (arith, lb))
one_more zero (s ∷ a) (t ∷ b) la lb = by_test (nat_eq s t)
  where
    by_test : (same : Bool) → (same && true) ≡ (true && same)
    by_test true = refl
    by_test false = refl
one_more (suc m) (s ∷ a) (t ∷ b) la lb = by_test (nat_eq s t) (one_more m a b (omega (arith, la)) (omega (arith, lb)))
  where
    by_test : (same : Bool) → bytes_eq (take (suc m) a) (take (suc m) b) ≡ (bytes_eq (take m a) (take m b) && nat_eq (slice_index_or a m 0) (slice_index_or b m 0))
        → (same && bytes_eq (take (suc m) a) (take (suc m) b)) ≡ ((same && bytes_eq (take m a) (take m b)) && nat_eq (slice_index_or a m 0) (slice_index_or b m 0))
    by_test true rest = rest
    by_test false rest = refl

pub same_more : (m k : ℕ) (a b : List ℕ) → suc m ≡ k → m < length a → m < length b → bytes_eq (take k a) (take k b) ≡ (bytes_eq (take m a) (take m b) && nat_eq (slice_index_or a m 0) (slice_index_or b m 0))
same_more m k a b is la lb = subst (λ k. bytes_eq (take k a) (take k b) ≡ (bytes_eq (take m a) (take m b) && nat_eq (slice_index_or a m 0) (slice_index_or b m 0))) is (one_more m a b la lb)

-- if two lists are the same up to a place, the rest decides
pub same_rest : (m : ℕ) (a b : List ℕ) → bytes_eq (take m a) (take m b) ≡ true → bytes_eq (drop m a) (drop m b) ≡ bytes_eq a b
same_rest zero a b same = refl
same_rest (suc m) [] [] same = refl
same_rest (suc m) [] (t ∷ b) same = absurd cc
same_rest (suc m) (s ∷ a) [] same = absurd cc
same_rest (suc m) (s ∷ a) (t ∷ b) same = by_test (nat_eq s t) (same_rest m a b) same
  where
    by_test : (same : Bool) → (bytes_eq (take m a) (take m b) ≡ true → bytes_eq (drop m a) (drop m b) ≡ bytes_eq a b)
        → (same && bytes_eq (take m a) (take m b)) ≡ true → bytes_eq (drop m a) (drop m b) ≡ (same && bytes_eq a b)
    by_test true rest e = rest e
    by_test false rest e = absurd cc
