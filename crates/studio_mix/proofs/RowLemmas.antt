-- Frames of one width that follow one another in a list.
use Rattle.std.proofs.Common.{◌≡◌, [], ◌∷◌, ◌++◌, ℕ, zero, suc, ◌+◌, ◌*◌, ◌-◌, ◌<◌, ℤ, List, length, take, drop, flat_map, refl, sym, ap, ◌∙◌, arith, zero-mul, length-drop}
use Rattle.std.specs.List.{range_with_len}
use Rattle.std.proofs.lemmas.List.{take_at, drop_at, drop-drop, take-append-drop}

-- frame `f` of a list of frames
pub row_at : (m : ℕ) (row : ℕ → List ℤ) (a n f : ℕ) → ((k : ℕ) → length (row k) ≡ m) → f < n
    → take m (drop (f * m) (flat_map row (range_with_len a n))) ≡ row (a + f)
row_at m row a zero f len h = absurd (omega arith)
row_at m row a (suc n) zero len h =
    ap (λ k. take m (drop k (row a ++ flat_map row (range_with_len (a + 1) n)))) (zero-mul m)
    ∙ take_at (row a) (flat_map row (range_with_len (a + 1) n)) m (len a)
    ∙ ap row (let e : a ≡ a + 0 = omega arith in e)
row_at m row a (suc n) (suc f) len h =
    ap (λ k. take m (drop k (row a ++ flat_map row (range_with_len (a + 1) n)))) (let e : suc f * m ≡ m + f * m = omega arith in e)
    ∙ ap (take m) (sym (drop-drop (f * m) m (row a ++ flat_map row (range_with_len (a + 1) n))))
    ∙ ap (λ l. take m (drop (f * m) l)) (drop_at (row a) (flat_map row (range_with_len (a + 1) n)) m (len a))
    ∙ row_at m row (a + 1) n f len (omega arith)
    ∙ ap row (let e : a + 1 + f ≡ a + suc f = omega arith in e)

-- a list of `n` frames is its frames, one after another
pub rows_whole : (m : ℕ) (row : ℕ → List ℤ) (a n : ℕ) (xs : List ℤ) → length xs ≡ n * m
    → ((f : ℕ) → f < n → take m (drop (f * m) xs) ≡ row (a + f)) → xs ≡ flat_map row (range_with_len a n)
rows_whole m row a zero xs len same = nothing_left xs (len ∙ zero-mul m)
  where
    nothing_left : (xs : List ℤ) → length xs ≡ 0 → xs ≡ []
    nothing_left [] e = refl
    nothing_left (x ∷ xs) e = absurd (omega arith)
rows_whole m row a (suc n) xs len same =
    sym (take-append-drop m xs)
    ∙ ap (λ l. l ++ drop m xs) (ap (λ k. take m (drop k xs)) (sym (zero-mul m)) ∙ same 0 (omega arith) ∙ ap row (let e : a + 0 ≡ a = omega arith in e))
    ∙ ap (λ l. row a ++ l) (rows_whole m row (a + 1) n (drop m xs)
    (length-drop m xs ∙ (let e : length xs - m ≡ n * m = omega arith in e))
    (λ f h. ap (take m) (drop-drop (f * m) m xs ∙ ap (λ k. drop k xs) (let e : m + f * m ≡ (f + 1) * m = omega arith in e)) ∙ same (f + 1) (omega arith) ∙ ap row (let e : a + (f + 1) ≡ a + 1 + f = omega arith in e)))
