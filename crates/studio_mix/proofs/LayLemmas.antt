-- Frames of one stream among the frames of all.
use Rattle.std.proofs.Common.{◌≡◌, ℕ, zero, suc, ◌+◌, ◌*◌, ◌-◌, ◌<◌, ◌≤◌, ℤ, pos, negsuc, to_z, of_z, w32, List, [], ◌∷◌, ◌++◌, length, get_or, set, take, drop, All, refl, sym, ap, subst, ◌∙◌, arith, below_more}
use Rattle.std.proofs.lemmas.Int.{ints}
use Rattle.std.proofs.Math.Nat.{mul-le-mul_right}
use Rattle.std.proofs.lemmas.List.{drop-take, drop-drop, drop-append-le, length-take-le, length-drop}
use Rattle.std.proofs.lemmas.List.Elements.{All-append, All-take, All-drop}
use Rattle.std.proofs.lemmas.Slice.{take-put_mid_below, take-put_mid, drop-put_mid}
use Rattle.gain_mix.specs.Mix.{Is24Bits}
use borrow.Rule.Slice.PartMut.{put_mid}

-- frame `f` of `wide` begins with the first samples of the old frame, and then frame `f` of `values`
abbrev pub LaidAt : ℕ → ℕ → ℕ → List ℤ → List ℤ → List ℤ → ℕ → Type 0
LaidAt w at c values old wide f = take (at + c) (drop (f * w) wide) ≡ take at (drop (f * w) old) ++ take c (drop (f * c) values)

-- the first `i` frames are in place
pub record IsLaid (w at c : ℕ) (values old wide : List ℤ) (i : ℕ) : Type 0 where
  pub laid : (f : ℕ) → f < i → LaidAt w at c values old wide f
  pub kept : drop (i * w) wide ≡ drop (i * w) old

pub row_end : (f i w : ℕ) → f < i → f * w + w ≤ i * w
row_end f i w h = let m = mul-le-mul_right w (let e : f + 1 ≤ i = omega arith in e) in omega (arith, m)

pub laid_more : (n w at c i : ℕ) (values old wide ys : List ℤ) → i < n → at + c ≤ w → length wide ≡ n * w → length values ≡ n * c
    → ys ≡ take c (drop (i * c) values) → IsLaid w at c values old wide i
    → IsLaid w at c values old (put_mid (i * w + at) c wide ys) (i + 1)
laid_more n w at c i values old wide ys h within len len_v e before =
    let r = row_end i n w h in
    let rv = row_end i n c h in
    let p_in : i * w + at ≤ length wide = omega arith in
    let ys_len : length ys ≡ c = ap length e ∙ length-take-le c (drop (i * c) values) (let d : length (drop (i * c) values) ≡ length values - i * c = length-drop (i * c) values in omega arith) in
    record {
      laid = below_more (LaidAt w at c values old (put_mid (i * w + at) c wide ys)) i
          (λ f g.
          let rf = row_end f i w g in
          sym (drop-take (f * w) (at + c) (put_mid (i * w + at) c wide ys))
          ∙ ap (drop (f * w)) (take-put_mid_below (i * w + at) c wide ys (f * w + (at + c)) (omega arith) p_in)
          ∙ drop-take (f * w) (at + c) wide
          ∙ before.laid f g)
          (sym (drop-take (i * w) (at + c) (put_mid (i * w + at) c wide ys))
          ∙ ap (drop (i * w)) (take-put_mid (i * w + at) c wide ys (i * w + (at + c)) (omega arith) p_in)
          ∙ drop-append-le (i * w) (take (i * w + at) wide) ys (let l : length (take (i * w + at) wide) ≡ i * w + at = length-take-le (i * w + at) wide p_in in omega arith)
          ∙ ap (λ l. l ++ ys) (drop-take (i * w) at wide ∙ ap (take at) before.kept)
          ∙ ap (λ l. take at (drop (i * w) old) ++ l) e);
      kept =
          drop-put_mid (i * w + at) c wide ys ((i + 1) * w) (omega arith) p_in ys_len
          ∙ ap (λ k. drop k wide) (let e' : (i + 1) * w ≡ i * w + w = omega arith in e')
          ∙ sym (drop-drop w (i * w) wide)
          ∙ ap (drop w) before.kept
          ∙ drop-drop w (i * w) old
          ∙ ap (λ k. drop k old) (let e' : i * w + w ≡ (i + 1) * w = omega arith in e');
    }

pub All-put_mid : (P : ℤ → Type 0) (a k : ℕ) (xs ys : List ℤ) → All P xs → All P ys → All P (put_mid a k xs ys)
All-put_mid P a k xs ys h g = All-append P (take a xs) _ (All-take P a xs h) (All-append P ys _ g (All-drop P k (drop a xs) (All-drop P a xs h)))

-- one more part was put in place, by a length `k` that equals `c`
pub laid_part : (n w at c i k : ℕ) (values old wide ys : List ℤ) → k ≡ c → i < n → at + c ≤ w → length wide ≡ n * w → length values ≡ n * c
    → ys ≡ take c (drop (i * c) values) → IsLaid w at c values old wide i
    → IsLaid w at c values old (put_mid (i * w + at) k wide ys) (i + 1)
laid_part n w at c i k values old wide ys same h within len len_v e before =
    subst (λ k. IsLaid w at c values old (put_mid (i * w + at) k wide ys) (i + 1)) (sym same) (laid_more n w at c i values old wide ys h within len len_v e before)

set_is_put_mid : (a : ℕ) (xs : List ℤ) (v : ℤ) → a < length xs → set xs a v ≡ put_mid a 1 xs (v ∷ [])
set_is_put_mid a [] v h = absurd (omega (arith, h))
set_is_put_mid zero (x ∷ xs) v h = refl
set_is_put_mid (suc a) (x ∷ xs) v h = ap (λ l. x ∷ l) (set_is_put_mid a xs v (omega (arith, h)))

one_at : (xs : List ℤ) (i : ℕ) (d : ℤ) → i < length xs → get_or xs i d ∷ [] ≡ take 1 (drop i xs)
one_at [] i d h = absurd (omega (arith, h))
one_at (x ∷ xs) zero d h = refl
one_at (x ∷ xs) (suc i) d h = one_at xs i d (omega (arith, h))

-- one more sample was put in place
pub laid_sample : (n w at i : ℕ) (values old wide : List ℤ) (v d : ℤ) → i < n → at < w → length wide ≡ n * w → length values ≡ n
    → v ≡ get_or values i d → IsLaid w at 1 values old wide i → IsLaid w at 1 values old (set wide (i * w + at) v) (i + 1)
laid_sample n w at i values old wide v d h within len len_v is before =
    let r = row_end i n w h in
    let here : i * w + at < length wide = omega (arith, len, r, within) in
    subst (λ l. IsLaid w at 1 values old l (i + 1)) (sym (set_is_put_mid (i * w + at) wide v here))
    (laid_more n w at 1 i values old wide (v ∷ []) h (omega (arith, within)) len (len_v ∙ (let e : n ≡ n * 1 = omega arith in e))
    (ap (λ x. x ∷ []) is ∙ one_at values i d (omega (arith, h, len_v)) ∙ ap (λ k. take 1 (drop k values)) (let e : i ≡ i * 1 = omega arith in e)) before)

-- the samples of one channel are in place
pub laid_samples : (w at i : ℕ) (values old wide : List ℤ) → IsLaid w at 1 values old wide i
    → (f : ℕ) → f < i → take (at + 1) (drop (f * w) wide) ≡ take at (drop (f * w) old) ++ take 1 (drop f values)
laid_samples w at i values old wide before f h =
    before.laid f h ∙ ap (λ k. take at (drop (f * w) old) ++ take 1 (drop k values)) (let e : f * 1 ≡ f = omega arith in e)

set_is_put_pair : (a : ℕ) (xs : List ℤ) (v u : ℤ) → suc a < length xs → set (set xs a v) (suc a) u ≡ put_mid a 2 xs (v ∷ u ∷ [])
set_is_put_pair a [] v u h = absurd (omega (arith, h))
set_is_put_pair zero (x ∷ []) v u h = absurd (omega (arith, h))
set_is_put_pair zero (x ∷ y ∷ xs) v u h = refl
set_is_put_pair (suc a) (x ∷ xs) v u h = ap (λ l. x ∷ l) (set_is_put_pair a xs v u (omega (arith, h)))

two_at : (xs : List ℤ) (i : ℕ) (d : ℤ) → suc i < length xs → get_or xs i d ∷ get_or xs (suc i) d ∷ [] ≡ take 2 (drop i xs)
two_at [] i d h = absurd (omega (arith, h))
two_at (x ∷ []) zero d h = absurd (omega (arith, h))
two_at (x ∷ y ∷ xs) zero d h = refl
two_at (x ∷ xs) (suc i) d h = two_at xs i d (omega (arith, h))

-- one more pair was put in place
pub laid_pair : (n w at i : ℕ) (values old wide : List ℤ) (v u d : ℤ) → i < n → at + 2 ≤ w → length wide ≡ n * w → length values ≡ n * 2
    → v ≡ get_or values (i * 2) d → u ≡ get_or values (i * 2 + 1) d → IsLaid w at 2 values old wide i
    → IsLaid w at 2 values old (set (set wide (i * w + at) v) (i * w + at + 1) u) (i + 1)
laid_pair n w at i values old wide v u d h within len len_v v_is u_is before =
    let r = row_end i n w h in
    let here : suc (i * w + at) < length wide = omega (arith, len, r, within) in
    let pair : set (set wide (i * w + at) v) (i * w + at + 1) u ≡ put_mid (i * w + at) 2 wide (v ∷ u ∷ []) =
    ap (λ k. set (set wide (i * w + at) v) k u) (let e : i * w + at + 1 ≡ suc (i * w + at) = omega arith in e) ∙ set_is_put_pair (i * w + at) wide v u here in
    subst (λ l. IsLaid w at 2 values old l (i + 1)) (sym pair)
    (laid_more n w at 2 i values old wide (v ∷ u ∷ []) h within len len_v
    (ap (λ x. x ∷ u ∷ []) v_is ∙ ap (λ x. get_or values (i * 2) d ∷ x ∷ []) (u_is ∙ ap (λ k. get_or values k d) (let e : i * 2 + 1 ≡ suc (i * 2) = omega arith in e)) ∙ two_at values (i * 2) d (omega (arith, h, len_v))) before)

-- a sample of 24 bits is unchanged by storing it in 32 bits
pub sample_in_32 : (v : ℤ) → Is24Bits v → to_z w32 (of_z w32 v) ≡ v
sample_in_32 (pos n) h = omega (arith, ints, h)
sample_in_32 (negsuc n) h = omega (arith, ints, h)
