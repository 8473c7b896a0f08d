-- The first copy of a number.
use Rattle.std.proofs.Common.{◌≡◌, ℕ, suc, ◌<◌, Bool, true, false, max, List, [], ◌∷◌, ◌++◌, Some, IsSome, refl, arith, if◌then◌else◌}
use Rattle.std.specs.Prelude.{nat_eq}
use Rattle.std.proofs.lemmas.Bool.Decides.{nat_tests}
use Rattle.path_merge.proofs.HistoryLemmas.{or_else}
use Rattle.rtp_stream.specs.Grid.{end_of_copies, first_with}
use Rattle.rtp_stream.specs.declared.packet.Packet.{Packet}

-- first of one list and then another
pub first_with-append : (n : ℕ) (xs ys : List (ℕ × Packet)) → first_with n (xs ++ ys) ≡ or_else (first_with n xs) (first_with n ys)
first_with-append n [] ys = refl
first_with-append n ((m, p) ∷ xs) ys = by_test (nat_eq m n) (first_with-append n xs ys)
  where
    by_test : (b : Bool) → first_with n (xs ++ ys) ≡ or_else (first_with n xs) (first_with n ys) → (if b then Some p else first_with n (xs ++ ys)) ≡ or_else (if b then Some p else first_with n xs) (first_with n ys)
    by_test true e = refl
    by_test false e = e

-- a number with a copy is below the end, and the one before the end has a copy
pub first_with-below : (n : ℕ) (copies : List (ℕ × Packet)) → IsSome (first_with n copies) → n < end_of_copies copies
first_with-below n [] some = cc
first_with-below n ((m, p) ∷ copies) some = by_test (first_with-below n copies) (nat_eq m n) refl some
  where
    by_test : (IsSome (first_with n copies) → n < end_of_copies copies) → (b : Bool) → nat_eq m n ≡ b → IsSome (if b then Some p else first_with n copies) → n < max (suc m) (end_of_copies copies)
    by_test more true is s = grind (arith, nat_tests, is)
    by_test more false is s = omega (arith, more s)

pub first_with-last : (e : ℕ) (copies : List (ℕ × Packet)) → suc e ≡ end_of_copies copies → IsSome (first_with e copies)
first_with-last e [] is = absurd (omega (arith, is))
first_with-last e ((m, p) ∷ copies) is = by_test (first_with-last e copies) (nat_eq m e) refl
  where
    by_test : (suc e ≡ end_of_copies copies → IsSome (first_with e copies)) → (b : Bool) → nat_eq m e ≡ b → IsSome (if b then Some p else first_with e copies)
    by_test more true h = refl
    by_test more false h =
        let apart : (m ≡ e → ⊥) = λ same. absurd (grind (arith, nat_tests, h, same)) in
        more (omega (arith, is, apart))
