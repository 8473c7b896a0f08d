-- Pieces that are added one after another.
use Rattle.std.proofs.Common.{◌≡◌, ◌<◌, ◌*◌, ◌%◌, ℕ, zero, suc, List, [], ◌∷◌, ◌++◌, take, replicate, ap, refl, ◌∙◌, append_assoc, arith}

-- one piece before the others
pub before : (h i j xs ys : List ℕ) → i ≡ h ++ xs → j ≡ i ++ ys → j ≡ h ++ (xs ++ ys)
before h i j xs ys first then = then ∙ ap (λ l. l ++ ys) first ∙ append_assoc h xs ys

-- a piece by its value
pub piece : (h i xs ys : List ℕ) → i ≡ h ++ xs → xs ≡ ys → i ≡ h ++ ys
piece h i xs ys added is = added ∙ ap (λ l. h ++ l) is

-- zeros behind a piece
pub with_padding : (h xs ys zs i j : List ℕ) → i ≡ h ++ (xs ++ ys) → j ≡ i ++ zs → j ≡ h ++ (xs ++ (ys ++ zs))
with_padding h xs ys zs i j first then = before h i j (xs ++ ys) zs first then ∙ ap (λ l. h ++ l) (append_assoc xs ys zs)

few_zeros : (n : ℕ) → n < 4 → take {A = ℕ} n (0 ∷ 0 ∷ 0 ∷ []) ≡ replicate n 0
few_zeros zero few = refl
few_zeros (suc zero) few = refl
few_zeros (suc (suc zero)) few = refl
few_zeros (suc (suc (suc zero))) few = refl
few_zeros (suc (suc (suc (suc n)))) few = absurd (omega arith)

-- the zeros that fill a word
pub zeros : (n : ℕ) → take {A = ℕ} (3 * n % 4) (0 ∷ 0 ∷ 0 ∷ []) ≡ replicate (3 * n % 4) 0
zeros n = few_zeros (3 * n % 4) (omega arith)
