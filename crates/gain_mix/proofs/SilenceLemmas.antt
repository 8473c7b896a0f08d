-- Silence: inputs that are all 0 are mixed to outputs that are all 0.
use Rattle.std.proofs.Common.{◌≡◌, ℕ, zero, suc, ◌*◌, ◌-◌, ◌<◌, ◌⊎◌, ℤ, pos, List, [], ◌∷◌, length, take, replicate, All, arith, refl, ap, ◌∙◌, inl, inr}
use Rattle.std.proofs.lemmas.Int.{ints}
use Rattle.std.proofs.lemmas.List.{take-replicate, drop-replicate}
use Rattle.gain_mix.specs.Mix.{frame_at, mixed_frame, output_sample, rounded_sum, saturated_sum, weighted_sum}
use Rattle.gain_mix.proofs.RowLemmas.{row_end}

-- `n` samples of silence
abbrev pub silence : ℕ → List ℤ
silence n = replicate n (pos 0)

pub weighted_sum-silence : (gains : List ℤ) (n : ℕ) → weighted_sum gains (silence n) ≡ pos 0
weighted_sum-silence [] n = refl
weighted_sum-silence (gain ∷ gains) zero = refl
weighted_sum-silence (gain ∷ gains) (suc n) = omega (arith, ints, weighted_sum-silence gains n)

rounded_silence : (s : ℕ) → (s ≡ 16) ⊎ (s ≡ 24) → saturated_sum s (rounded_sum s (pos 0)) ≡ pos 0
rounded_silence s (inl e) = ap (λ s. saturated_sum s (rounded_sum s (pos 0))) e
rounded_silence s (inr e) = ap (λ s. saturated_sum s (rounded_sum s (pos 0))) e

pub output_sample-silence : (s n : ℕ) (gains : List ℤ) → (s ≡ 16) ⊎ (s ≡ 24) → output_sample s (silence n) gains ≡ pos 0
output_sample-silence s n gains shift = ap (λ (z : ℤ). saturated_sum s (rounded_sum s z)) (weighted_sum-silence gains n) ∙ rounded_silence s shift

pub mixed_frame-silence : (rows : List (List ℤ)) (n s : ℕ) → (s ≡ 16) ⊎ (s ≡ 24) → mixed_frame rows (silence n) s ≡ silence (length rows)
mixed_frame-silence [] n s shift = refl
mixed_frame-silence (row ∷ rows) n s shift = ap (λ (x : ℤ). x ∷ mixed_frame rows (silence n) s) (output_sample-silence s n row shift) ∙ ap (λ (xs : List ℤ). pos 0 ∷ xs) (mixed_frame-silence rows n s shift)

-- a frame of silence is silence
pub frame_at-silence : (m f frames : ℕ) → f < frames → frame_at m f (silence (frames * m)) ≡ silence m
frame_at-silence m f frames h =
    let r = row_end f frames m h in
    ap (take m) (drop-replicate (f * m) (frames * m) (pos 0)) ∙ take-replicate m (frames * m - f * m) (pos 0) (omega (arith, r))

-- values that are all 0 are silence
pub All-silence : (xs : List ℤ) → All (λ (x : ℤ). x ≡ pos 0) xs → xs ≡ silence (length xs)
All-silence [] all = refl
All-silence (x ∷ xs) all = ap (λ (y : ℤ). y ∷ xs) (all 0 (pos 0) (omega arith)) ∙ ap (λ (ys : List ℤ). pos 0 ∷ ys) (All-silence xs (λ k d h. all (suc k) d (omega (arith, h))))
