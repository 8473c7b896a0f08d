-- The feeds of receivers, place by place.
use Rattle.std.proofs.Common.{◌≡◌, ℕ, zero, suc, List, [], ◌∷◌, ◌++◌, length, drop, slice_get, Some, IfSome, refl, sym, ap, ◌∙◌}

-- what holds of each element at its place, with one element more
pub each_more : {A : Type 0} (P : ℕ → A → Type 0) (xs : List A) (x : A) → ((place : ℕ) → IfSome (slice_get xs place) (P place)) → P (length xs) x
    → (place : ℕ) → IfSome (slice_get (xs ++ x ∷ []) place) (P place)
each_more P [] x all last zero = last
each_more P [] x all last (suc place) = tt
each_more P (first ∷ xs) x all last zero = all zero
each_more P (first ∷ xs) x all last (suc place) = each_more (λ n y. P (suc n) y) xs x (λ n. all (suc n)) last place

-- the element behind the first n, and those behind it
pub get_from_drop : {A : Type 0} (n : ℕ) (xs : List A) → slice_get (drop n xs) 0 ≡ slice_get xs n
get_from_drop zero xs = refl
get_from_drop (suc n) [] = refl
get_from_drop (suc n) (first ∷ xs) = get_from_drop n xs

pub next_of_drop : {A : Type 0} (n : ℕ) (xs : List A) (x : A) (rest : List A) → drop n xs ≡ x ∷ rest → slice_get xs n ≡ Some x
next_of_drop n xs x rest is = sym (get_from_drop n xs) ∙ ap (λ l. slice_get l 0) is

pub drop_next : {A : Type 0} (n : ℕ) (xs : List A) (x : A) (rest : List A) → drop n xs ≡ x ∷ rest → drop (suc n) xs ≡ rest
drop_next n xs x rest is = one_more n xs ∙ ap (drop 1) is
  where
    one_more : {A : Type 0} (k : ℕ) (ys : List A) → drop (suc k) ys ≡ drop 1 (drop k ys)
    one_more zero ys = refl
    one_more (suc k) [] = refl
    one_more (suc k) (first ∷ ys) = one_more k ys
